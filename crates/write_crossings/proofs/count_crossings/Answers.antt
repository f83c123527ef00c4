-- Of each tag there are no more entries than numbers.
use Rattle.kit.specs.Names.{arith}
use Rattle.write_crossings.proofs.Sixteen.{tags_few}
use Rattle.write_crossings.proofs.count_crossings.Goals as goal

pub overflow_add-made : goal.overflow_add-made
overflow_add-made c = let log = c.args.log.now in omega (arith, tags_few 0 log, tags_few 1 log, tags_few 2 log, tags_few 3 log)

pub overflow_add-result : goal.overflow_add-result
overflow_add-result c = let log = c.args.log.now in omega (arith, tags_few 0 log, tags_few 1 log, tags_few 2 log, tags_few 3 log)

pub overflow_cast-result : goal.overflow_cast-result
overflow_cast-result c = let log = c.args.log.now in omega (arith, tags_few 0 log, tags_few 1 log, tags_few 2 log, tags_few 3 log)
