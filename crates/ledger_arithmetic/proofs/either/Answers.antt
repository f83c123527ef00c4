use Rattle.ledger_arithmetic.proofs.OperatorsByCode.{either_second, either_first}
use Rattle.ledger_arithmetic.proofs.either.Goals as goal

pub returns-then-left-eq0 : goal.returns-then-left-eq0
returns-then-left-eq0 c = let args = c.args in either_second args.left args.right _ c.if-left-eq0.true c.bit_of.ensures

pub returns-else-left-eq0 : goal.returns-else-left-eq0
returns-else-left-eq0 c = let args = c.args in either_first args.left args.right c.if-left-eq0.false
