use Rattle.walk_contents.proofs.ConstraintParts.{past_value}
use Rattle.walk_claims.proofs.root_value.Goals as goal

pub returns-else-root-nodes : goal.returns-else-root-nodes
returns-else-root-nodes c = let args = c.args in let pre = c.requires in
    past_value _ pre args.addresses.now args.variables.now _ _ c.if-root-nodes.false c.number_at.ensures
