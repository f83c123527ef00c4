use Rattle.kit.specs.Names.{le-leb, lt-leb}
use Rattle.file_children.proofs.is_expression_kind.Goals as goal

pub returns-then-kind-ge-CONSTANT : goal.returns-then-kind-ge-CONSTANT
returns-then-kind-ge-CONSTANT c = rw (le-leb _ _ c.if-kind-ge-CONSTANT.true)

pub returns-else-kind-ge-CONSTANT : goal.returns-else-kind-ge-CONSTANT
returns-else-kind-ge-CONSTANT c = rw (lt-leb _ _ c.if-kind-ge-CONSTANT.false)
