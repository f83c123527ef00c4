-- Statements by the kind of their node, and branches: the node number falls.
-- What is logged of a branch and of a sequence stands above the other answers: another guard or order is refused here first.
use Rattle.std.specs.Prelude.{◌+◌, ◌*◌}
use Rattle.rewrite_statements.proofs.+branch_log_statement_log.Given as goal

abbrev pub decreases-branch_log : goal.decreases-branch_log
decreases-branch_log l = 2 * l.n + 1

abbrev pub decreases-statement_log : goal.decreases-statement_log
decreases-statement_log l = 2 * l.n
