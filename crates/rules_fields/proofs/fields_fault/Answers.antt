use Rattle.definitions.specs.ContractFile.{plain_field, boolean, to_everyone}
use Rattle.rules_fields.proofs.Fields.{fault_start, fault_next, fault_done, count_fields}
use Rattle.rules_fields.specs.Fields.{fields_in}
use Rattle.definitions.specs.Numbers.{field_faults}
use Rattle.kit.specs.Names.{ap, ◌∙◌, min, arith}
use Rattle.rules_fields.proofs.fields_fault.Goals as goal

pub loop-f-init : goal.loop-f-init
loop-f-init c = let fields = c.args.fields.now in (omega arith, fault_start (field_faults (fields_in fields)) (fields_in fields))

pub overflow_cast-f : goal.overflow_cast-f
overflow_cast-f c = let few = c.requires.few in omega arith

pub loop-f-preserved : goal.loop-f-preserved
loop-f-preserved c = let fields = c.args.fields.now in let n = count_fields fields in let (few, least-is) = c.loop-f.invariant in (
  omega (arith, c.min-fault.ensures),
  fault_next (field_faults (fields_in fields)) (fields_in fields) c.loop-f.f
      (record { shape = plain_field; type = boolean; owner = to_everyone }) _ _ _ (omega arith) least-is
      (c.min-fault.ensures ∙ ap (min c.loop-f.fault) c.owner_fault.ensures),
)

pub returns : goal.returns
returns c = let fields = c.args.fields.now in let n = count_fields fields in let (few, least-is) = c.loop-f.invariant in
    fault_done (field_faults (fields_in fields)) (fields_in fields) c.loop-f.f _ _ (omega arith) few least-is
