-- The cycle of body, supplying and circuit translation: each function meets its contract, the node number falling around the cycle.
-- What is logged of a read and of a supply stands above the other answers: a read before its key, or a claim under another guard, is
-- refused here first.
use Rattle.std.specs.Prelude.{◌+◌, ◌*◌}
use Rattle.rewrite_expressions.proofs.+body_log_body_parts_log_circuit_log_circuit_parts_log_supply_log.Given as goal

abbrev pub decreases-body_log : goal.decreases-body_log
decreases-body_log l = 4 * l.n + 3

abbrev pub decreases-body_parts_log : goal.decreases-body_parts_log
decreases-body_parts_log l = 4 * l.n + 0

abbrev pub decreases-circuit_log : goal.decreases-circuit_log
decreases-circuit_log l = 4 * l.n + 1

abbrev pub decreases-circuit_parts_log : goal.decreases-circuit_parts_log
decreases-circuit_parts_log l = 4 * l.n + 0

abbrev pub decreases-supply_log : goal.decreases-supply_log
decreases-supply_log l = 4 * l.n + 2
