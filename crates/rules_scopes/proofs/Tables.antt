-- The fields and parameters that decoded slices hold at an index, and what the tables say of them.
use Rattle.std.specs.Prelude.{◌≡◌, ◌&&◌, ◌+◌, ◌*◌, ◌-◌, ◌/◌, ◌<◌, ◌≤◌}
use Rattle.kit.specs.Names.{refl, ap, sym, ◌∙◌, Bool, true, false, not, List, ℕ, zero, suc}
use Rattle.kit.specs.Names.{arith, map, eqb, leb, length, leb-true, length-map, get_or_eq_default}
use Rattle.definitions.specs.ContractFile.{boolean, shape_code, shape_of, field_at, field_of, parameter_at, parameter_of}
use Rattle.definitions.specs.Numbers.{parameter_in_tables, owner_fits}
use Rattle.theory_laws.proofs.Codes.{type_code}
use Rattle.theory_laws.proofs.TruthValues.{and_left}
use Rattle.file_decoded.specs.Slices.{field_from, fields_from, parameter_from, parameters_from}
use Rattle.rules_owners.specs.Numbering.{owner_with, declared_number}
use Rattle.rules_owners.proofs.Numbering.{field_codes, declared_is, above_eqb, argument_numbered, final_numbered}
use Rattle.rules_scopes.specs.Scopes.{field_on, parameter_on, scope_from, IsField, IsParameter, FieldsReady, ParametersReady}
use Rattle.rules_scopes.specs.declared.Declared.{Declared}
use Rattle.rules_scopes.specs.declared.Given.{Given}
use Rattle.file_decoded.proofs.Records.{parameters_length}

field_within : (count : ℕ) (numbers : List ℕ) (at f : ℕ) → f < count
    → field_at (map field_of (fields_from count numbers at)) f ≡ field_of (field_from numbers (at + 3 * f))
unfolding fields_from
field_within zero numbers at f h = absurd (omega arith)
field_within (suc count) numbers at zero h =
    let e : at + 3 * 0 ≡ at = omega arith in
    rw e
field_within (suc count) numbers at (suc f) h =
    let e : at + 3 * suc f ≡ at + 3 + 3 * f = omega arith in
    rw e (field_within count numbers (at + 3) f (omega arith))

parameter_within : (count : ℕ) (numbers : List ℕ) (at k : ℕ) → k < count
    → parameter_at (map parameter_of (parameters_from count numbers at)) k ≡ parameter_of (parameter_from numbers (at + 2 * k))
unfolding parameters_from
parameter_within zero numbers at k h = absurd (omega arith)
parameter_within (suc count) numbers at zero h =
    let e : at + 2 * 0 ≡ at = omega arith in
    rw e
parameter_within (suc count) numbers at (suc k) h =
    let e : at + 2 * suc k ≡ at + 2 + 2 * k = omega arith in
    rw e (parameter_within count numbers (at + 2) k (omega arith))

parameter_past : (count : ℕ) (numbers : List ℕ) (at k : ℕ) → count ≤ k
    → parameter_at (map parameter_of (parameters_from count numbers at)) k ≡ record { type = boolean; private = true }
parameter_past count numbers at k h =
    let records = parameters_from count numbers at in
    get_or_eq_default (map parameter_of records) _ (omega (arith, length-map records parameter_of, parameters_length count numbers at))

shape_code_law : (code : ℕ) → code ≤ 2 → shape_code (shape_of code) ≡ code
shape_code_law zero h = refl
shape_code_law (suc zero) h = refl
shape_code_law (suc (suc zero)) h = refl
shape_code_law (suc (suc (suc n))) h = absurd (omega arith)

module _ (fields : List ℕ) (ready : FieldsReady fields) (f : ℕ) (inside : f < length fields / 3) where
  pub field_read_law : (d : Declared) → d.shape ≡ (field_from fields (3 * f)).shape → d.kind ≡ (field_from fields (3 * f)).type
      → d.owner ≡ declared_number (field_from fields (3 * f)).owner → d.tagged ≡ eqb (field_from fields (3 * f)).owner 2
      → IsField (length fields / 3) (field_on fields f) d
  unfolding field_of
  field_read_law d es et eo eg =
      let r = field_from fields (3 * f) in
      let z : 0 + 3 * f ≡ 3 * f = omega arith in
      let codes = field_codes r (ready.listed f inside) in
      let declared = declared_is r.owner (length fields / 3) codes.2 (ready.named f inside) in
      let is : field_on fields f ≡ field_of r = rw z at (field_within (length fields / 3) fields 0 f inside) in
      record {
        shape = rw is (shape_code_law r.shape (leb-true r.shape 2 codes.0) ∙ sym es);
        type = rw is (type_code r.type (leb-true r.type 2 codes.1) ∙ sym et);
        owner = rw (is, eo, eg) declared.0;
        listed = rw eo declared.1;
        final = rw eo declared.2;
      }

module _ (parameters : List ℕ) (ready : ParametersReady parameters) (k : ℕ) where
  pub parameter_read_law : 2 * k + 1 < length parameters
      → IsParameter k (parameter_on parameters k) (record { kind = (parameter_from parameters (2 * k)).type; owner = (parameter_from parameters (2 * k)).owner })
  unfolding parameter_of parameter_in_tables
  parameter_read_law h =
      let r = parameter_from parameters (2 * k) in
      let few = ready.few in
      let inside : k < length parameters / 2 = omega arith in
      let z : 0 + 2 * k ≡ 2 * k = omega arith in
      let is : parameter_on parameters k ≡ parameter_of r = rw z at (parameter_within (length parameters / 2) parameters 0 k inside) in
      record {
        type = rw is (type_code r.type (leb-true r.type 2 (and_left (leb r.type 2) _ (ready.listed k inside))));
        private = rw is;
        present = λ e. omega arith;
      }

  pub parameter_missing : length parameters ≤ 2 * k + 1 → IsParameter k (parameter_on parameters k) (record { kind = 0; owner = 1 })
  parameter_missing h =
      let is = parameter_past (length parameters / 2) parameters 0 k (omega arith) in
      record { type = rw is; private = rw is; present = λ e. absurd (differ e) }
    where
      differ : ◌≡◌ {A = ℕ} 1 0 → ⊥
      differ e = omega arith

module _ (fields parameters : List ℕ) where
  pub all_or_caller : (target : ℕ) → target < 2 → owner_fits (scope_from fields parameters) (owner_with target) ≡ true
  all_or_caller zero h = refl
  all_or_caller (suc zero) h = refl
  all_or_caller (suc (suc n)) h = absurd (omega arith)

  pub argument_fits : (target : ℕ) (g : Given) (both : Bool) → 2 ≤ target → target < 10 → IsParameter (target - 2) (parameter_on parameters (target - 2)) g
      → both ≡ (eqb g.kind 2 && eqb g.owner 0) → owner_fits (scope_from fields parameters) (owner_with target) ≡ both
  argument_fits target g both low high i e = go (target - 2) (omega arith) i
    where
      twice : (b : Bool) → not (not b) ≡ b
      twice true = refl
      twice false = refl

      go : (k : ℕ) → target ≡ 2 + k → IsParameter k (parameter_on parameters k) g → owner_fits (scope_from fields parameters) (owner_with target) ≡ both
      go k s is = rw (s, above_eqb (2 + k) 0 (omega arith), argument_numbered k (omega arith), is.type, is.private, twice (eqb g.owner 0)) (sym e)

  pub final_fits : (count target : ℕ) (d : Declared) → 10 ≤ target → IsField count (field_on fields (target - 10)) d
      → owner_fits (scope_from fields parameters) (owner_with target) ≡ eqb d.shape 1
  final_fits count target d low i = go (target - 10) (omega arith) i
    where
      go : (f : ℕ) → target ≡ 10 + f → IsField count (field_on fields f) d → owner_fits (scope_from fields parameters) (owner_with target) ≡ eqb d.shape 1
      go f s is = rw (s, above_eqb (10 + f) 0 (omega arith), final_numbered f) (ap (λ n. eqb n 1) is.shape)
