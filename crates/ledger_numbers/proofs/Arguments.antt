-- Arguments against parameters, one after another.
use Rattle.std.specs.Prelude.{◌≡◌, ◌||◌, ◌∷◌, ◌+◌, ◌*◌, ◌<◌, ◌≤◌}
use Rattle.kit.specs.Names.{refl, ap, ap₂, sym, ◌∙◌, Bool, true, false, not, List, [], zip_with, ℕ, suc}
use Rattle.kit.specs.Names.{add-one, length, get_or, drop, drop_of_length-le, drop-cons, eq-eqb, ne_eqb}
use Rattle.definitions.specs.Basics.{any}
use Rattle.definitions.specs.ContractFile.{Parameter, Function, boolean, parameter_at, is_of_type, byte_at, data_type_of, function_count, parameter_of}
use Rattle.definitions.specs.Ledger.{Ledger, arguments_off}
use Rattle.file_accepted.specs.Context.{parameters_in}
use Rattle.file_accepted.specs.Functions.{function_start}
use Rattle.file_accepted.proofs.Declarations.{parameter_declared}
use Rattle.file_accepted.proofs.Functions.{function_in_law}
use Rattle.ledger_numbers.specs.Arguments.{any_outside, arguments_off_for}

-- The arguments of a call are off as those of the function at its place are.
pub arguments_off_are : (l : Ledger) (function caller : ℕ) (arguments : List ℕ) → function < function_count l.file
    → arguments_off_for (parameters_in l.file (function_start l.file function)) arguments ≡ arguments_off l function caller arguments
unfolding arguments_off
arguments_off_are l function caller arguments inside =
    ap (λ (called : Function). arguments_off_for called.parameters arguments) (sym (function_in_law l.file function inside))

pub typed : (file arguments : List ℕ) (at k code value : ℕ) (r : Bool) → k < byte_at file at → code ≡ byte_at file (at + 1 + 2 * k) → value ≡ get_or arguments k 0
    → r ≡ is_of_type (data_type_of code) value → r ≡ is_of_type (parameter_at (parameters_in file at) k).type (get_or arguments k 0)
unfolding parameter_of
typed file arguments at k code value r inside e v h =
    h ∙ ap₂ (λ (c x : ℕ). is_of_type (data_type_of c) x) e v ∙ ap (λ (p : Parameter). is_of_type p.type (get_or arguments k 0)) (sym (parameter_declared file at k inside))

outside_first : (p : Parameter) (ps : List Parameter) (v : ℕ) (vs : List ℕ) → any_outside (p ∷ ps) (v ∷ vs) ≡ (not (is_of_type p.type v) || any_outside ps vs)
unfolding any zip_with
outside_first p ps v vs = refl

outside_none : (vs : List ℕ) → any_outside [] vs ≡ false
unfolding any zip_with
outside_none vs = refl

module _ (ps : List Parameter) (arguments : List ℕ) where
  pub off_count : (length arguments ≡ length ps → ⊥) → true ≡ arguments_off_for ps arguments
  off_count n = sym (ap (λ (b : Bool). not b || any_outside ps arguments) (ne_eqb (length arguments) (length ps) n))

  pub off_types : length arguments ≡ length ps → (r : Bool) → any_outside ps arguments ≡ r → r ≡ arguments_off_for ps arguments
  off_types e r h = sym (ap (λ (b : Bool). not b || any_outside ps arguments) (eq-eqb (length arguments) (length ps) e) ∙ h)

  pub off_none : (k : ℕ) (goal : Bool) → length ps ≤ k → any_outside (drop k ps) (drop k arguments) ≡ goal → goal ≡ false
  off_none k goal h inv =
      sym inv ∙ ap (λ (rest : List Parameter). any_outside rest (drop k arguments)) (drop_of_length-le ps h) ∙ outside_none (drop k arguments)

  module _ (k : ℕ) (inside : k < length ps) (within : k < length arguments) (goal : Bool) (inv : any_outside (drop k ps) (drop k arguments) ≡ goal) where
    off_step : (r : Bool) → r ≡ is_of_type (parameter_at ps k).type (get_or arguments k 0)
        → goal ≡ (not r || any_outside (drop (k + 1) ps) (drop (k + 1) arguments))
    off_step r e =
        sym inv ∙ ap₂ any_outside (drop-cons ps k (record { type = boolean; private = true }) inside) (drop-cons arguments k 0 within)
        ∙ outside_first (parameter_at ps k) (drop (suc k) ps) (get_or arguments k 0) (drop (suc k) arguments)
        ∙ ap (λ (b : Bool). not b || any_outside (drop (suc k) ps) (drop (suc k) arguments)) (sym e)
        ∙ ap (λ (n : ℕ). not r || any_outside (drop n ps) (drop n arguments)) (sym (add-one k))

    pub off_next : (r : Bool) → r ≡ is_of_type (parameter_at ps k).type (get_or arguments k 0) → r ≡ true
        → any_outside (drop (k + 1) ps) (drop (k + 1) arguments) ≡ goal
    off_next r e t = sym (off_step r e ∙ ap (λ (b : Bool). not b || any_outside (drop (k + 1) ps) (drop (k + 1) arguments)) t)

    pub off_found : (r : Bool) → r ≡ is_of_type (parameter_at ps k).type (get_or arguments k 0) → r ≡ false → goal ≡ true
    off_found r e t = off_step r e ∙ ap (λ (b : Bool). not b || any_outside (drop (k + 1) ps) (drop (k + 1) arguments)) t
