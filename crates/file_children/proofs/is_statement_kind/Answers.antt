use Rattle.kit.specs.Names.{le-leb, lt-leb}
use Rattle.file_children.proofs.is_statement_kind.Goals as goal

pub returns-then-kind-ge-SKIP : goal.returns-then-kind-ge-SKIP
returns-then-kind-ge-SKIP c = rw (le-leb _ _ c.if-kind-ge-SKIP.true)

pub returns-else-kind-ge-SKIP : goal.returns-else-kind-ge-SKIP
returns-else-kind-ge-SKIP c = rw (lt-leb _ _ c.if-kind-ge-SKIP.false)
