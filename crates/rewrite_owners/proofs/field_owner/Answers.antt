use Rattle.kit.specs.Names.{◌∙◌, arith}
use Rattle.rewrite_owners.proofs.Declared.{field_owned, field_unowned}
use Rattle.rewrite_owners.proofs.field_owner.Goals as goal

pub returns-then-f-byte_at : goal.returns-then-f-byte_at
returns-then-f-byte_at c = let (_, fields_listed) = c.requires in c.byte_at-then-f-byte_at.ensures.value ∙ field_owned _ _ fields_listed (omega arith)

pub returns-else-f-byte_at : goal.returns-else-f-byte_at
returns-else-f-byte_at c = field_unowned _ _ (omega arith)
