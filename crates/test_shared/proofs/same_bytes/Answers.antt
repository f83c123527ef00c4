-- The slices are compared item by item.
use Rattle.kit.specs.Names.{◌∙◌}
use Rattle.test_shared.proofs.Bytes.{same_as_compared}
use Rattle.test_shared.proofs.same_bytes.Goals as goal

pub returns : goal.returns
returns c = c.eq.ensures ∙ same_as_compared c.args.left.now c.args.right.now
