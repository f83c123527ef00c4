use Rattle.ledger_arithmetic.proofs.OperatorsByCode.{rest_by_zero}
use Rattle.ledger_arithmetic.proofs.rest.Goals as goal

pub returns-then-right-eq0 : goal.returns-then-right-eq0
returns-then-right-eq0 c = rest_by_zero _ _ c.if-right-eq0.true
