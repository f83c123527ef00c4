-- A part that is all there is lent, and nothing otherwise.
use Rattle.test_shared.proofs.Parts.{part_past, part_none, part_inside}
use Rattle.kit.specs.Names.{arith}
use Rattle.test_shared.proofs.part.Goals as goal

pub returns-then-input-end : goal.returns-then-input-end
returns-then-input-end c = let args = c.args in part_past args.start args.end args.input.now (omega arith)

pub returns-then-end-start : goal.returns-then-end-start
returns-then-end-start c = let args = c.args in part_none args.start args.end args.input.now (omega arith) (omega arith)

pub returns : goal.returns
returns c = let args = c.args in part_inside args.start args.end args.input.now (omega arith)
