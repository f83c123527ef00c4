use Rattle.rules_contract.proofs.Passing.{fields_ready}
use Rattle.rules_contract.proofs.Functions.{number_is}
use Rattle.kit.specs.Names.{ne_eqb}
use Rattle.rules_contract.proofs.rules_number.Goals as goal

pub fields_fault-requires : goal.fields_fault-requires
fields_fault-requires c = fields_ready _ _ _ _ c.requires.0

pub functions_fault-requires : goal.functions_fault-requires
functions_fault-requires c = c.requires

pub returns-then-fault-eq16 : goal.returns-then-fault-eq16
returns-then-fault-eq16 c = record { value = number_is c.args.sections.now.fields.now c.args.sections.now.functions.now c.args.sections.now.parameters.now c.args.sections.now.nodes.now _ _ _ _ c.fields_fault.ensures c.functions_fault.ensures.fault c.min-fault.ensures (rw c.if-fault-eq16.true); owners_after = c.functions_fault.ensures.column }

pub returns-else-fault-eq16 : goal.returns-else-fault-eq16
returns-else-fault-eq16 c = record { value = number_is c.args.sections.now.fields.now c.args.sections.now.functions.now c.args.sections.now.parameters.now c.args.sections.now.nodes.now _ _ _ _ c.fields_fault.ensures c.functions_fault.ensures.fault c.min-fault.ensures (rw (ne_eqb _ 16 c.if-fault-eq16.false)); owners_after = c.functions_fault.ensures.column }
