-- The faults that code finds are the ones that the definitions tell of statements.
use Rattle.std.specs.Prelude.{◌≡◌, ◌≤◌}
use Rattle.kit.specs.Names.{not, none, ℕ, eqb}
use Rattle.definitions.specs.ContractFile.{Expression, Statement, Scope, Owner, field_at}
use Rattle.definitions.specs.Owners.{Links, name_of, place_owner}
use Rattle.definitions.specs.Numbers.{value_faults, condition_faults, statement_faults}
use Rattle.rules_faults.specs.Faults.{least_fault}
use Rattle.rules_faults.proofs.Faults.{least_append, least_one, counted_8, counted_9, counted_14}
use Rattle.rules_owners.specs.Numbering.{owner_with}
use Rattle.rules_scopes.specs.Scopes.{IsField}
use Rattle.rules_scopes.specs.declared.Declared.{Declared}
use Rattle.rules_codes.specs.Codes.{place_number}
use Rattle.rules_codes.proofs.Codes.{public_code, place_owner_law}
use Rattle.rules_judgements.specs.Judging.{JudgedAs}
use Rattle.rules_judgements.specs.declared.Judged.{Judged}
use Rattle.rules_judgements.proofs.Judging.{entry_fault_is}
use Rattle.rules_assignments.specs.Putting.{value_fault, field_fault, entry_put_fault, condition_fault}

module _ (scope : Scope) (linked : Links) (count : ℕ) (enough : 10 ≤ count) where
  module _ (fields f : ℕ) (d : Declared) (i : IsField fields (field_at scope.fields f) d) where
    value_fault_is : (owner : Owner) (name : ℕ) (e : Expression) (value : Judged) → owner ≡ owner_with (place_number d name)
        → JudgedAs scope linked count e value → least_fault (value_faults scope linked f owner e) ≡ value_fault linked d name value
    value_fault_is owner name e value o h =
        simp least_append (rw (i.type, o, h.type, h.owner, h.fault, least_one (not (eqb value.kind d.kind)) 9 counted_9))

    pub field_fault_is : (e : Expression) (value : Judged) → JudgedAs scope linked count e value
        → least_fault (statement_faults scope linked (Statement.assign_field f e)) ≡ field_fault linked d value
    unfolding statement_faults
    field_fault_is e value h =
        rw (least_append, value_fault_is (place_owner (field_at scope.fields f).owner none) 0 e value (place_owner_law fields _ d 0 i) h)
        (rw (i.shape, least_one (not (eqb d.shape 0)) 8 counted_8))

    pub entry_put_fault_is : (k e : Expression) (key value : Judged) → JudgedAs scope linked count k key → JudgedAs scope linked count e value
        → least_fault (statement_faults scope linked (Statement.assign_entry f k e)) ≡ entry_put_fault linked d key value
    unfolding statement_faults
    entry_put_fault_is k e key value g h =
        let owner = place_owner (field_at scope.fields f).owner (name_of scope k) in
        let own : owner ≡ owner_with (place_number d key.name) = rw g.name (place_owner_law fields (field_at scope.fields f) d key.name i) in
        rw (least_append, value_fault_is owner key.name e value own h)
        (rw (least_append, entry_fault_is scope linked count enough fields f d k key i g, g.fault))

  pub condition_fault_is : (e : Expression) (condition : Judged) → JudgedAs scope linked count e condition
      → least_fault (condition_faults scope linked e) ≡ condition_fault condition
  condition_fault_is e condition h =
      simp least_append
      (rw (h.type, h.owner, h.fault, public_code condition.owner, least_one (not (eqb condition.kind 0)) 9 counted_9)
      (rw (least_one (not (eqb condition.owner 0)) 14 counted_14)))
