-- The judgement that code makes of each kind of expression is right if those of its parts are.
use Rattle.std.specs.Prelude.{◌≡◌, ◌&&◌, ◌||◌, ◌++◌, ◌+◌, ◌≤◌, ◌<◌}
use Rattle.kit.specs.Names.{refl, ◌∙◌, Bool, true, false, not, cond, none, some, ℕ}
use Rattle.kit.specs.Names.{arith, eqb, leb, length, eqb-true}
use Rattle.definitions.specs.ContractFile.{final_name, parameter_name, Expression, constant, me, field, entry, parameter, Scope, field_at, parameter_at, data_type_of, type_of}
use Rattle.definitions.specs.Owners.{Links, owner_of, name_of, place_owner}
use Rattle.definitions.specs.Numbers.{expression_faults, entry_faults, read_fault}
use Rattle.theory_laws.proofs.Codes.{type_code}
use Rattle.rules_faults.specs.Faults.{least_fault}
use Rattle.rules_faults.proofs.Faults.{least_append, least_none, least_one, counted_8, counted_9, counted_10}
use Rattle.rules_owners.specs.Numbering.{name_with, owner_with}
use Rattle.rules_owners.proofs.Numbering.{above_eqb, argument_numbered, final_numbered}
use Rattle.rules_scopes.specs.Scopes.{IsField, IsParameter}
use Rattle.rules_scopes.specs.declared.Declared.{Declared}
use Rattle.rules_scopes.specs.declared.Given.{Given}
use Rattle.rules_codes.specs.Codes.{place_number}
use Rattle.rules_codes.proofs.Codes.{public_code, no_name, tagged_code, place_owner_law, place_listed, caller_listed, caller_code}
use Rattle.rules_judgements.specs.Judging.{JudgedAs, constant_judged, me_judged, field_judged, entry_fault, entry_judged, parameter_judged}
use Rattle.rules_judgements.specs.declared.Judged.{Judged}

listed_if : (count : ℕ) → 0 < count → (b : Bool) (a : ℕ) → (b ≡ true → a < count) → cond b a 0 < count
listed_if count room true a h = h refl
listed_if count room false a h = room

module _ (scope : Scope) (linked : Links) (count : ℕ) (enough : 10 ≤ count) where
  pub constant_is : (code value : ℕ) → code ≤ 2 → JudgedAs scope linked count (constant (data_type_of code) value) (constant_judged code)
  unfolding type_of owner_of name_of expression_faults
  constant_is code value h = record { type = type_code code h; owner = refl; name = refl; fault = least_none; owner_listed = omega arith; name_listed = omega arith }

  pub me_is : JudgedAs scope linked count me me_judged
  unfolding type_of owner_of name_of expression_faults
  me_is = record { type = refl; owner = refl; name = refl; fault = least_none; owner_listed = omega arith; name_listed = omega arith }

  field_name : (f : ℕ) (final : Bool) → cond final (some (final_name f)) none ≡ name_with (cond final (10 + f) 0)
  field_name f true = rw (above_eqb (10 + f) 0 (omega arith), final_numbered f)
  field_name f false = refl

  pub field_is : (fields f : ℕ) (d : Declared) → 10 + fields ≤ count → 10 + f < count → IsField fields (field_at scope.fields f) d
      → JudgedAs scope linked count (field f) (field_judged linked f d)
  unfolding type_of owner_of name_of expression_faults
  field_is fields f d room h i =
      let own : place_owner (field_at scope.fields f).owner none ≡ owner_with (place_number d 0) = place_owner_law fields (field_at scope.fields f) d 0 i in
      record {
        type = i.type;
        owner = own;
        name = rw i.shape (field_name f (eqb d.shape 1));
        fault = simp least_append (rw (i.shape, own, least_one (eqb d.shape 2) 8 counted_8));
        owner_listed = place_listed fields (field_at scope.fields f) d 0 i count room (omega arith);
        name_listed = listed_if count (omega arith) (eqb d.shape 1) (10 + f) (λ e. h);
      }

  pub entry_fault_is : (fields f : ℕ) (d : Declared) (e : Expression) (key : Judged) → IsField fields (field_at scope.fields f) d → JudgedAs scope linked count e key
      → least_fault (entry_faults scope f e) ≡ entry_fault d key
  entry_fault_is fields f d e key i h =
      simp least_append
      (rw (i.shape, i.owner, h.type, h.owner, h.name, public_code key.owner, tagged_code d.owner d.tagged, no_name key.name)
      (rw (
        least_one (not (eqb d.shape 2)) 8 counted_8,
        least_one (not (eqb key.kind 2)) 9 counted_9,
        least_one (not (eqb key.owner 0) || (d.tagged && eqb key.name 0)) 10 counted_10,
      )))

  pub entry_is : (fields f : ℕ) (d : Declared) (e : Expression) (key : Judged) → 10 + fields ≤ count → IsField fields (field_at scope.fields f) d
      → JudgedAs scope linked count e key → JudgedAs scope linked count (entry f e) (entry_judged linked d key)
  unfolding type_of owner_of name_of expression_faults
  entry_is fields f d e key room i h =
      let own : place_owner (field_at scope.fields f).owner (name_of scope e) ≡ owner_with (place_number d key.name) =
      rw h.name (place_owner_law fields (field_at scope.fields f) d key.name i) in
      record {
        type = i.type;
        owner = own;
        name = refl;
        fault = least_append (expression_faults scope linked e ++ entry_faults scope f e) (read_fault scope linked (entry f e))
            ∙ rw (least_append (expression_faults scope linked e) (entry_faults scope f e), entry_fault_is fields f d e key i h, own, h.fault);
        owner_listed = place_listed fields (field_at scope.fields f) d key.name i count room h.name_listed;
        name_listed = omega arith;
      }

  pub parameter_is : (k present : ℕ) (p : Given) → length scope.parameters ≡ present → IsParameter k (parameter_at scope.parameters k) p
      → JudgedAs scope linked count (parameter k) (parameter_judged linked k present p)
  unfolding type_of owner_of name_of expression_faults
  parameter_is k present p l i =
      record {
        type = i.type;
        owner = rw i.private (caller_code (not (eqb p.owner 0)));
        name = rw (i.type, i.private) (named (eqb p.owner 0) refl (eqb p.kind 2));
        fault = simp least_append
            (rw (l, i.private, caller_code (not (eqb p.owner 0)), least_one (leb present k) 8 counted_8));
        owner_listed = caller_listed count enough (not (eqb p.owner 0));
        name_listed = listed_if count (omega arith) (eqb p.owner 0) _ (λ e. let few = i.present (eqb-true p.owner 0 e) in
            listed_if count (omega arith) (eqb p.kind 2) (2 + k) (λ d. omega (arith, few)));
      }
    where
      named : (a : Bool) → eqb p.owner 0 ≡ a → (b : Bool) → cond (b && not (not a)) (some (parameter_name k)) none ≡ name_with (cond a (cond b (2 + k) 0) 0)
      named true e true = rw (above_eqb (2 + k) 0 (omega arith), argument_numbered k (i.present (eqb-true p.owner 0 e)))
      named true e false = refl
      named false e true = refl
      named false e false = refl
