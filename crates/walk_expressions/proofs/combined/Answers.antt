use Rattle.walk_expressions.proofs.ExpressionsByKind.{combined_walked, combined_number}
use Rattle.walk_expressions.proofs.combined.Goals as goal

pub returns : goal.returns
returns c = let args = c.args in
    let number_of = c.number_of-first.ensures in
    let number-of2 = c.number_of-second.ensures in record {
      is_walked = combined_walked args.code _ _ args.left.walked args.right.walked _ _ _ number-of2 c.both_walked-operands.ensures c.divides.ensures c.both_walked.ensures;
      same = combined_number args.code _ _ _ _ _ number_of number-of2 c.operated-number.ensures;
    }
