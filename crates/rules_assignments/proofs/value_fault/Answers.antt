use Rattle.rules_assignments.proofs.value_fault.Goals as goal

pub misplaced-requires : goal.misplaced-requires
misplaced-requires c = (c.requires.1, rw c.place_owner.ensures c.requires.0)

pub returns : goal.returns
returns c = cc
