use Rattle.ledger_arithmetic.proofs.OperatorsByCode.{div_by_zero}
use Rattle.ledger_arithmetic.proofs.quotient.Goals as goal

pub returns-then-right-eq0 : goal.returns-then-right-eq0
returns-then-right-eq0 c = div_by_zero _ _ c.if-right-eq0.true
