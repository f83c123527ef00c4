-- What is delivered is the front of the output.
use Rattle.kit.specs.Names.{sym, arith, length-take-le}
use Rattle.write_output.proofs.Answers.{promised_within}
use Rattle.compile.proofs.answer_in.Goals as goal

pub rewrite-answer-requires : goal.rewrite-answer-requires
rewrite-answer-requires c = c.requires

pub slice_bounds-deliver-end-then-answer-eq0 : goal.slice_bounds-deliver-end-then-answer-eq0
slice_bounds-deliver-end-then-answer-eq0 c = omega (arith, promised_within _ _ _ _ _ _ c.rewrite-answer.ensures.promised)

pub slice_bounds-deliver-end-then-answer-eq0-2 : goal.slice_bounds-deliver-end-then-answer-eq0-2
slice_bounds-deliver-end-then-answer-eq0-2 c = let rewrite = c.rewrite-answer in
    sym (length-take-le rewrite.result.length rewrite.new.out (omega (arith, promised_within _ _ _ _ _ _ rewrite.ensures.promised)))
