use Rattle.kit.specs.Names.{arith}
use Rattle.file_children.proofs.Children.{child_counts, child_count_table, child_count_high}
use Rattle.file_children.proofs.child_count.Goals as goal

pub returns-then-kind-lt22 : goal.returns-then-kind-lt22
unfolding child_counts
returns-then-kind-lt22 c = child_count_table c.args.kind (omega arith)

pub returns-else-kind-lt22 : goal.returns-else-kind-lt22
returns-else-kind-lt22 c = child_count_high _ (omega (arith, c.if-kind-lt22.false))
