-- The three counts make the length.
use Rattle.kit.specs.Names.{refl}
use Rattle.view_bytes.proofs.view_length.Goals as goal

pub returns : goal.returns
returns c = refl
