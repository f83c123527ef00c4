-- The test is the contract's own.
use Rattle.kit.specs.Names.{refl}
use Rattle.call_numbers.proofs.is_above_15.Goals as goal

pub returns : goal.returns
returns c = refl
