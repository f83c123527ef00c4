-- The reads of private parameters are tested one after another.
use Rattle.std.specs.Prelude.{◌≡◌, ◌∷◌, ◌+◌, ◌*◌, ◌<◌, ◌≤◌}
use Rattle.kit.specs.Names.{ap, sym, ◌∙◌, Bool, true, false, not, cond, List, map, ℕ, suc, add-one, eqb}
use Rattle.kit.specs.Names.{length, drop, drop_of_length-le, drop-cons, eq-eqb, ne_eqb}
use Rattle.definitions.specs.ContractFile.{Parameter, parameter_at, byte_at, parameter_of, data_type_of}
use Rattle.definitions.specs.Original.{only}
use Rattle.definitions.specs.Ledger.{Content, Form}
use Rattle.definitions.specs.Rewriting.{private_parameters}
use Rattle.file_accepted.specs.Context.{parameters_in}
use Rattle.file_accepted.proofs.Declarations.{parameter_declared}
use Rattle.ledger_readers.specs.declared.Reader.{Reader}
use Rattle.ledger_readers.specs.Readers.{reader_of_code, form_of}
use Rattle.ledger_18_forms.specs.Forms.{fits_or_zero, fits_at, front_fits}
use Rattle.ledger_18_forms.proofs.FormSteps.{front_next, front_stops, front_none}
use Rattle.ledger_18_variable.specs.Variables.{opening_form, opening_forms}

private_byte : (file : List ℕ) (at k : ℕ) → k < byte_at file at → (parameter_at (parameters_in file at) k).private ≡ not (eqb (byte_at file (at + 1 + 2 * k + 1)) 0)
unfolding parameter_of
private_byte file at k h = ap (λ (p : Parameter). p.private) (parameter_declared file at k h)

pub is_public_law : (file : List ℕ) (at k owner : ℕ) → k < byte_at file at → owner ≡ byte_at file (at + 1 + 2 * k + 1) → owner ≡ 0 → (parameter_at (parameters_in file at) k).private ≡ false
is_public_law file at k owner h same e = private_byte file at k h ∙ ap not (eq-eqb (byte_at file (at + 1 + 2 * k + 1)) 0 (sym same ∙ e))

pub is_private_law : (file : List ℕ) (at k owner : ℕ) → k < byte_at file at → owner ≡ byte_at file (at + 1 + 2 * k + 1) → (owner ≡ 0 → ⊥) → (parameter_at (parameters_in file at) k).private ≡ true
is_private_law file at k owner h same n = private_byte file at k h ∙ ap not (ne_eqb (byte_at file (at + 1 + 2 * k + 1)) 0 (λ e. n (same ∙ e)))

module _ (ps : List Parameter) (caller k : ℕ) where
  module _ (inside : k < length ps) where
    step : (b : Bool) → (parameter_at ps k).private ≡ b → opening_forms ps caller k ≡ map (opening_form ps caller) (cond b (k ∷ private_parameters (suc k) (drop (suc k) ps)) (private_parameters (suc k) (drop (suc k) ps)))
    unfolding private_parameters
    step b private =
        let first : drop k ps ≡ parameter_at ps k ∷ drop (suc k) ps = drop-cons ps k _ inside in
        rw (first, private)

    module _ (contents : List Content) (p : ℕ) (goal : Bool) (inv : front_fits fits_or_zero (opening_forms ps caller k) (drop p contents) ≡ goal) where
      pub public_next : (parameter_at ps k).private ≡ false → front_fits fits_or_zero (opening_forms ps caller (k + 1)) (drop p contents) ≡ goal
      public_next t = rw (add-one k) (ap (λ (l : List Form). front_fits fits_or_zero l (drop p contents)) (sym (step false t)) ∙ inv)

      module _ (a : Bool) (code : ℕ) (reader : Reader) (typed : data_type_of code ≡ (parameter_at ps k).type) (read : reader_of_code reader ≡ only caller)
          (tested : a ≡ fits_at fits_or_zero contents p (form_of code reader)) (private : (parameter_at ps k).private ≡ true) where
        form_is : form_of code reader ≡ opening_form ps caller k
        form_is = λ i. record { type = typed i; reader = read i }

        opened : front_fits fits_or_zero (opening_form ps caller k ∷ opening_forms ps caller (k + 1)) (drop p contents) ≡ goal
        opened = rw (add-one k) (ap (λ (l : List Form). front_fits fits_or_zero l (drop p contents)) (sym (step true private)) ∙ inv)

        pub private_next : a ≡ true → front_fits fits_or_zero (opening_forms ps caller (k + 1)) (drop (p + 1) contents) ≡ goal
        private_next t = front_next fits_or_zero contents p (opening_form ps caller k) (opening_forms ps caller (k + 1)) a goal (tested ∙ ap (fits_at fits_or_zero contents p) form_is) t opened

        pub private_stops : a ≡ false → false ≡ goal
        private_stops t = front_stops fits_or_zero contents p (opening_form ps caller k) (opening_forms ps caller (k + 1)) a goal (tested ∙ ap (fits_at fits_or_zero contents p) form_is) t opened

  pub openings_done : (contents : List Content) (p : ℕ) (goal : Bool) → length ps ≤ k → front_fits fits_or_zero (opening_forms ps caller k) (drop p contents) ≡ goal → true ≡ goal
  unfolding private_parameters
  openings_done contents p goal out inv = sym (front_none fits_or_zero (drop p contents)) ∙ (rw (drop_of_length-le ps out) at inv)
