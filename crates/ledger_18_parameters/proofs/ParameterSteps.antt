-- The parameters are tested one after another.
use Rattle.std.specs.Prelude.{◌≡◌, ◌&&◌, ◌∷◌, ◌+◌, ◌*◌, ◌<◌, ◌≤◌, ◌/◌}
use Rattle.kit.specs.Names.{refl, ap, sym, ◌∙◌, Bool, true, false, not, cond, List, [], ℕ, suc}
use Rattle.kit.specs.Names.{add-one, eqb, leb, length, drop, drop_of_length-le, drop-cons, eq-eqb, ne_eqb}
use Rattle.definitions.specs.ContractFile.{Parameter, parameter_at, byte_at, parameter_of, data_type_of}
use Rattle.definitions.specs.Original.{anyone, only}
use Rattle.definitions.specs.Ledger.{Content, Form, fits, all_fit, public_of, parameter_form}
use Rattle.file_accepted.specs.Context.{parameters_in}
use Rattle.file_accepted.proofs.Declarations.{parameter_declared}
use Rattle.ledger_contents.specs.Contents.{contents_of}
use Rattle.ledger_contents.proofs.FlatContents.{length_contents_of}
use Rattle.ledger_readers.specs.declared.Reader.{Reader}
use Rattle.ledger_readers.specs.Readers.{reader_of_code, form_of}
use Rattle.ledger_18_forms.specs.Forms.{fits_at}
use Rattle.ledger_18_forms.proofs.FormSteps.{all_none, all_next, all_stops}
use Rattle.ledger_18_parameters.specs.Parameters.{forms_of_parameters, shown_forms}

pub hidden_public : (owner : ℕ) (all : Bool) → owner ≡ 0 → false ≡ (not (eqb owner 0) && not all)
hidden_public owner all e = rw (eq-eqb owner 0 e)

pub hidden_private : (owner : ℕ) (all : Bool) → (owner ≡ 0 → ⊥) → not all ≡ (not (eqb owner 0) && not all)
hidden_private owner all n = rw (ne_eqb owner 0 n)

pub reader_public : (owner caller : ℕ) → owner ≡ 0 → anyone ≡ cond (not (eqb owner 0)) (only caller) anyone
reader_public owner caller e = rw (eq-eqb owner 0 e)

pub reader_private : (owner caller : ℕ) → (owner ≡ 0 → ⊥) → only caller ≡ cond (not (eqb owner 0)) (only caller) anyone
reader_private owner caller n = rw (ne_eqb owner 0 n)

pub private_is_law : (file : List ℕ) (at k owner : ℕ) → k < byte_at file at → owner ≡ byte_at file (at + 1 + 2 * k + 1) → (parameter_at (parameters_in file at) k).private ≡ not (eqb owner 0)
unfolding parameter_of
private_is_law file at k owner h e = ap (λ (p : Parameter). p.private) (parameter_declared file at k h) ∙ ap (λ (n : ℕ). not (eqb n 0)) (sym e)

pub shown_forms_law : (all : Bool) (caller : ℕ) (ps : List Parameter) → forms_of_parameters all caller ps ≡ shown_forms all caller ps
unfolding shown_forms public_of
shown_forms_law true caller [] = refl
shown_forms_law true caller (p ∷ ps) = ap (λ (l : List Form). parameter_form caller p ∷ l) (shown_forms_law true caller ps) ∙ go p.private
  where
    go : (b : Bool) → parameter_form caller p ∷ shown_forms true caller ps ≡ cond (b && false) (shown_forms true caller ps) (parameter_form caller p ∷ shown_forms true caller ps)
    go true = refl
    go false = refl
shown_forms_law false caller [] = refl
shown_forms_law false caller (p ∷ ps) = ap (λ (l : List Form). cond p.private l (parameter_form caller p ∷ l)) (shown_forms_law false caller ps) ∙ go p.private
  where
    go : (b : Bool)
        → cond b (shown_forms false caller ps) (parameter_form caller p ∷ shown_forms false caller ps)
        ≡ cond (b && true) (shown_forms false caller ps) (parameter_form caller p ∷ shown_forms false caller ps)
    go true = refl
    go false = refl

module _ (all : Bool) (caller : ℕ) (ps : List Parameter) (k : ℕ) (inside : k < length ps) (owner : ℕ) (private : (parameter_at ps k).private ≡ not (eqb owner 0)) where
  first : drop k ps ≡ parameter_at ps k ∷ drop (suc k) ps
  first = drop-cons ps k _ inside

  step : shown_forms all caller (drop k ps)
      ≡ cond (not (eqb owner 0) && not all) (shown_forms all caller (drop (k + 1) ps)) (parameter_form caller (parameter_at ps k) ∷ shown_forms all caller (drop (k + 1) ps))
  unfolding shown_forms
  step = rw (first, private, add-one k)

  module _ (contents : List Content) (p : ℕ) (hidden goal : Bool) (same : hidden ≡ (not (eqb owner 0) && not all))
      (inv : all_fit fits (shown_forms all caller (drop k ps)) (drop p contents) ≡ goal) where
    pub hidden_next : hidden ≡ true → all_fit fits (shown_forms all caller (drop (k + 1) ps)) (drop p contents) ≡ goal
    hidden_next t = ap (λ (l : List Form). all_fit fits l (drop p contents)) (sym (step ∙ (rw (sym same ∙ t)))) ∙ inv

    module _ (a : Bool) (code : ℕ) (reader : Reader) (typed : data_type_of code ≡ (parameter_at ps k).type)
        (read : reader_of_code reader ≡ cond (not (eqb owner 0)) (only caller) anyone) (tested : a ≡ fits_at fits contents p (form_of code reader)) (shown : hidden ≡ false) where
      form_is : form_of code reader ≡ parameter_form caller (parameter_at ps k)
      form_is =
          let r : reader_of_code reader ≡ cond (parameter_at ps k).private (only caller) anyone = read ∙ ap (λ (b : Bool). cond b (only caller) anyone) (sym private) in
          λ i. record { type = typed i; reader = r i }

      opened : all_fit fits (parameter_form caller (parameter_at ps k) ∷ shown_forms all caller (drop (k + 1) ps)) (drop p contents) ≡ goal
      opened = ap (λ (l : List Form). all_fit fits l (drop p contents)) (sym (step ∙ (rw (sym same ∙ shown)))) ∙ inv

      pub shown_next : a ≡ true → all_fit fits (shown_forms all caller (drop (k + 1) ps)) (drop (p + 1) contents) ≡ goal
      shown_next t =
          all_next fits contents p (parameter_form caller (parameter_at ps k)) (shown_forms all caller (drop (k + 1) ps)) a goal (tested ∙ ap (fits_at fits contents p) form_is) t opened

      pub shown_stops : a ≡ false → false ≡ goal
      shown_stops t =
          all_stops fits contents p (parameter_form caller (parameter_at ps k)) (shown_forms all caller (drop (k + 1) ps)) a goal (tested ∙ ap (fits_at fits contents p) form_is) t opened

pub parameters_done : (all : Bool) (caller : ℕ) (ps : List Parameter) (k p : ℕ) (flat : List ℕ) (goal : Bool) → length ps ≤ k
    → all_fit fits (shown_forms all caller (drop k ps)) (drop p (contents_of flat)) ≡ goal → leb (length flat / 5) p ≡ goal
unfolding shown_forms
parameters_done all caller ps k p flat goal out inv =
    ap (λ (n : ℕ). leb n p) (sym (length_contents_of flat)) ∙ sym (all_none fits (contents_of flat) p)
    ∙ (rw (drop_of_length-le ps out) at inv)
