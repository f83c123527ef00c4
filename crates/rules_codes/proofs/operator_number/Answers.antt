use Rattle.rules_codes.proofs.Codes.{operator_listed, operator_unlisted}
use Rattle.rules_codes.proofs.operator_number.Goals as goal

pub returns-then-code-le-OR_SHORT : goal.returns-then-code-le-OR_SHORT
returns-then-code-le-OR_SHORT c = operator_listed _ c.if-code-le-OR_SHORT.true

pub returns-else-code-le-OR_SHORT : goal.returns-else-code-le-OR_SHORT
returns-else-code-le-OR_SHORT c = operator_unlisted _ c.if-code-le-OR_SHORT.false
