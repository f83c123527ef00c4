use Rattle.kit.specs.Names.{refl, arith}
use Rattle.write_extents.proofs.behind.Goals as goal

pub overflow_add-result : goal.overflow_add-result
overflow_add-result c = omega arith

pub returns : goal.returns
returns c = (refl, refl)
