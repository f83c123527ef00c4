use Rattle.ledger_arithmetic.proofs.OperatorsByCode.{both_none, both_second}
use Rattle.ledger_arithmetic.proofs.both.Goals as goal

pub returns-then-left-eq0 : goal.returns-then-left-eq0
returns-then-left-eq0 c = let args = c.args in both_none args.left args.right c.if-left-eq0.true

pub returns-else-left-eq0 : goal.returns-else-left-eq0
returns-else-left-eq0 c = let args = c.args in both_second args.left args.right _ c.if-left-eq0.false c.bit_of.ensures
