use Rattle.kit.specs.Names.{refl}
use Rattle.write_extents.proofs.is_short.Goals as goal

pub returns : goal.returns
returns c = refl
