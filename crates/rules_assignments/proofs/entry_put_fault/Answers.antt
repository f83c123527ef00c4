use Rattle.rules_assignments.proofs.entry_put_fault.Goals as goal

pub returns : goal.returns
returns c = cc
