use Rattle.rules_entries.proofs.entry_fault.Goals as goal

pub returns : goal.returns
returns c = cc
