use Rattle.kit.specs.Names.{le-leb, lt-leb}
use Rattle.rules_codes.proofs.result_type.Goals as goal

pub returns-then-operator_number-le-REMAINDER_SHORT : goal.returns-then-operator_number-le-REMAINDER_SHORT
returns-then-operator_number-le-REMAINDER_SHORT c = rw (← c.operator_number.ensures, le-leb _ 4 c.if-operator_number-le-REMAINDER_SHORT.true)

pub returns-else-operator_number-le-REMAINDER_SHORT : goal.returns-else-operator_number-le-REMAINDER_SHORT
returns-else-operator_number-le-REMAINDER_SHORT c = rw (← c.operator_number.ensures, lt-leb _ 4 c.if-operator_number-le-REMAINDER_SHORT.false)
