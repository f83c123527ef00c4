use Rattle.kit.specs.Names.{arith}
use Rattle.check_05_uses.proofs.UseCounts.{counted_use, counted_past}
use Rattle.check_05_uses.proofs.count_use.Goals as goal

pub overflow_add-counts : goal.overflow_add-counts
overflow_add-counts c = omega (arith, c.requires.each c.args.n c.if-n-lt512.true)

pub returns-then-n-lt512 : goal.returns-then-n-lt512
returns-then-n-lt512 c = counted_use _ c.args.n (omega (arith, c.requires.long))

pub returns-else-n-lt512 : goal.returns-else-n-lt512
returns-else-n-lt512 c = counted_past _ _ c.if-n-lt512.false
