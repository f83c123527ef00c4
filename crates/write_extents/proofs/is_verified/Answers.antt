use Rattle.kit.specs.Names.{refl}
use Rattle.write_extents.proofs.is_verified.Goals as goal

pub returns : goal.returns
returns c = refl
