use Rattle.kit.specs.Names.{arith}
use Rattle.ledger_types.proofs.TypesByKind.{uint_operator, bool_operator, other_operator}
use Rattle.ledger_types.proofs.operator_type.Goals as goal

pub returns-then-code-lt-LESS : goal.returns-then-code-lt-LESS
returns-then-code-lt-LESS c = uint_operator c.args.code (omega arith)

pub returns-then-code-lt-OPERATORS : goal.returns-then-code-lt-OPERATORS
returns-then-code-lt-OPERATORS c = bool_operator c.args.code (omega arith) (omega arith)

pub returns-else-code-lt-OPERATORS : goal.returns-else-code-lt-OPERATORS
returns-else-code-lt-OPERATORS c = other_operator c.args.code (omega arith)
