use Rattle.walk_steps.proofs.assign.Goals as goal

pub returns : goal.returns
returns c = rw c.position.ensures at c.put_content.ensures
