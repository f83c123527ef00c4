use Rattle.kit.specs.Names.{refl}
use Rattle.write_extents.proofs.is_short_file.Goals as goal

pub returns : goal.returns
returns c = refl
