-- What is printed is the front of the room.
use Rattle.kit.specs.Names.{sym, arith, length-take-le}
use Rattle.report_contract.proofs.Texts.{reported_within}
use Rattle.report.proofs.answer.Goals as goal

pub slice_bounds-text-end : goal.slice_bounds-text-end
slice_bounds-text-end c = omega (arith, reported_within _ _ _ c.report-answer.ensures.1)

pub slice_bounds-print-end-then-answer-eq0 : goal.slice_bounds-print-end-then-answer-eq0
slice_bounds-print-end-then-answer-eq0 c = let report = c.report-answer in
    sym (length-take-le report.result.length report.new.out (omega (arith, reported_within _ _ _ report.ensures.1)))
