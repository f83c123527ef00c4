-- The test is the contract's own.
use Rattle.kit.specs.Names.{refl}
use Rattle.check_refusals.proofs.is_refused.Goals as goal

pub returns : goal.returns
returns c = refl
