use Rattle.kit.specs.Names.{refl, arith}
use Rattle.write_extents.proofs.numbers_of.Goals as goal

pub overflow_mul-result : goal.overflow_mul-result
overflow_mul-result c = omega arith

pub returns : goal.returns
returns c = refl
