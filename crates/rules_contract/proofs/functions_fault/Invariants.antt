-- The least fault and the column so far, with those of the functions ahead.
use Rattle.rules_contract.proofs.Functions.{FunctionsSo}
use Rattle.rules_contract.proofs.functions_fault.Given as goal

abbrev pub invariant-loop-f : goal.invariant-loop-f
invariant-loop-f l = FunctionsSo l.sections.fields.now l.sections.functions.now l.sections.parameters.now l.sections.nodes.now l.initial.owners l.f l.fault l.owners
