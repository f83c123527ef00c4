-- What is not worked out holds as little as what is false.
use Rattle.kit.specs.Names.{refl}
use Rattle.disclose_branches.proofs.holds.Goals as goal

pub returns-then-finished : goal.returns-then-finished
returns-then-finished c = rw c.if-finished.true refl
