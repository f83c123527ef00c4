use Rattle.walk_steps.proofs.is_walked_true.Goals as goal

pub returns : goal.returns
returns c = rw c.number_of.ensures at c.both_walked.ensures
