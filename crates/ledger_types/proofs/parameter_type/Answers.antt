use Rattle.kit.specs.Names.{arith}
use Rattle.ledger_types.proofs.TypesByKind.{parameter_typed, parameter_untyped}
use Rattle.ledger_types.proofs.parameter_type.Goals as goal

pub returns-then-k-byte_at : goal.returns-then-k-byte_at
returns-then-k-byte_at c = parameter_typed _ _ _ _ (omega arith) c.byte_at-then-k-byte_at.ensures.value

pub returns-else-k-byte_at : goal.returns-else-k-byte_at
returns-else-k-byte_at c = parameter_untyped _ _ _ 0 (omega arith)
