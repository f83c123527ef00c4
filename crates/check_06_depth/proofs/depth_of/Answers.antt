use Rattle.kit.specs.Names.{refl, sym, arith}
use Rattle.file_bytes.proofs.ReadingSteps.{byte_at_past}
use Rattle.check_06_depth.proofs.depth_of.Goals as goal

pub overflow_cast-result : goal.overflow_cast-result
overflow_cast-result c = omega (arith, c.requires.each c.args.n)

pub returns-then-n-lt512 : goal.returns-then-n-lt512
returns-then-n-lt512 c = record { value = refl; upper_bound = c.requires.each c.args.n }

pub returns-else-n-lt512 : goal.returns-else-n-lt512
returns-else-n-lt512 c = let args = c.args in record { value = sym (byte_at_past args.depths.now args.n (omega (arith, c.requires.long))); upper_bound = omega arith }
