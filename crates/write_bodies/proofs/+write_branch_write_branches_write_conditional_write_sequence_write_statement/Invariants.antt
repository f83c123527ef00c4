-- Statements by the kind of their node, sequences, conditionals and branches: the node number falls.
use Rattle.std.specs.Prelude.{◌+◌, ◌*◌}
use Rattle.write_bodies.proofs.+write_branch_write_branches_write_conditional_write_sequence_write_statement.Given as goal

abbrev pub decreases-write_branch : goal.decreases-write_branch
decreases-write_branch l = 4 * l.n + 4

abbrev pub decreases-write_branches : goal.decreases-write_branches
decreases-write_branches l = 4 * l.n + 1

abbrev pub decreases-write_conditional : goal.decreases-write_conditional
decreases-write_conditional l = 4 * l.n + 2

abbrev pub decreases-write_sequence : goal.decreases-write_sequence
decreases-write_sequence l = 4 * l.n + 2

abbrev pub decreases-write_statement : goal.decreases-write_statement
decreases-write_statement l = 4 * l.n + 3
