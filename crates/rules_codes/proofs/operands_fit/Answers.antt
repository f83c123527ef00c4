use Rattle.kit.specs.Names.{refl, le-leb, lt-leb}
use Rattle.rules_codes.proofs.operands_fit.Goals as goal

pub returns-then-operator-le-LESS_OR_EQUAL_SHORT : goal.returns-then-operator-le-LESS_OR_EQUAL_SHORT
returns-then-operator-le-LESS_OR_EQUAL_SHORT c = rw (← c.operator_number-operator.ensures, le-leb _ 6 c.if-operator-le-LESS_OR_EQUAL_SHORT.true) refl

pub returns-then-operator-le-NOT_EQUAL_SHORT : goal.returns-then-operator-le-NOT_EQUAL_SHORT
returns-then-operator-le-NOT_EQUAL_SHORT c = rw (← c.operator_number-operator.ensures, lt-leb _ 6 c.if-operator-le-LESS_OR_EQUAL_SHORT.false, le-leb _ 8 c.if-operator-le-NOT_EQUAL_SHORT.true)

pub returns : goal.returns
returns c = rw (← c.operator_number-operator.ensures, lt-leb _ 6 c.if-operator-le-LESS_OR_EQUAL_SHORT.false, lt-leb _ 8 c.if-operator-le-NOT_EQUAL_SHORT.false) refl
