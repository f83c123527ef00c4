-- Faults of assignments and conditions, from the judgements of their expressions.
use Rattle.kit.specs.Names.{not, cond, ℕ, min, eqb}
use Rattle.definitions.specs.Owners.{Links}
use Rattle.definitions.specs.Numbers.{fault, may_be_put}
use Rattle.rules_faults.specs.Faults.{least_fault}
use Rattle.rules_owners.specs.Numbering.{owner_with}
use Rattle.rules_codes.specs.Codes.{place_number}
use Rattle.rules_judgements.specs.Judging.{entry_fault}
use Rattle.rules_judgements.specs.declared.Judged.{Judged}
use Rattle.rules_scopes.specs.declared.Declared.{Declared}

module _ (linked : Links) where
  abbrev pub value_fault : Declared → ℕ → Judged → ℕ
  value_fault d name value =
      min (min value.fault (cond (not (eqb value.kind d.kind)) 9 16))
      (least_fault (fault (not (may_be_put linked (owner_with value.owner) (owner_with (place_number d name)))) 15))

  abbrev pub field_fault : Declared → Judged → ℕ
  field_fault d value = min (cond (not (eqb d.shape 0)) 8 16) (value_fault d 0 value)

  abbrev pub entry_put_fault : Declared → Judged → Judged → ℕ
  entry_put_fault d key value = min (min key.fault (entry_fault d key)) (value_fault d key.name value)

abbrev pub condition_fault : Judged → ℕ
condition_fault condition =
    min (min condition.fault (cond (not (eqb condition.kind 0)) 9 16)) (cond (not (eqb condition.owner 0)) 14 16)
