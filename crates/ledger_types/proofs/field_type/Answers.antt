use Rattle.kit.specs.Names.{arith}
use Rattle.ledger_types.proofs.TypesByKind.{field_typed, field_untyped}
use Rattle.ledger_types.proofs.field_type.Goals as goal

pub returns-then-f-byte_at : goal.returns-then-f-byte_at
returns-then-f-byte_at c = field_typed _ _ _ (omega arith) c.byte_at-then-f-byte_at.ensures.value

pub returns-else-f-byte_at : goal.returns-else-f-byte_at
returns-else-f-byte_at c = field_untyped _ _ 0 (omega arith)
