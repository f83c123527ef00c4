-- What is lent of the output is as long as counted.
use Rattle.kit.specs.Names.{◌∙◌, arith, length-take, le-ltb}
use Rattle.test_programs.proofs.Texts.{expected_front, expected_nothing}
use Rattle.test_programs.proofs.programs.is_printed.Goals as goal

pub slice_bounds-same_bytes-end : goal.slice_bounds-same_bytes-end
slice_bounds-same_bytes-end c = simp length-take (omega arith)

pub returns-then-length-gt0 : goal.returns-then-length-gt0
returns-then-length-gt0 c = expected_front _ _ _ _ c.at_most-length.ensures _ c.if-length-gt0.true c.same_bytes.ensures

pub returns-else-length-gt0 : goal.returns-else-length-gt0
returns-else-length-gt0 c = le-ltb 0 _ c.if-length-gt0.false ∙ expected_nothing _ _ _ _ c.at_most-length.ensures c.if-length-gt0.false
