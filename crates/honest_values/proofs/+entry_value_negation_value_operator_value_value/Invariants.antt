-- The values of nodes by their kind, as a cycle: the node number falls, or the same node goes on to its own kind.
use Rattle.std.specs.Prelude.{◌+◌, ◌*◌}
use Rattle.honest_values.proofs.+entry_value_negation_value_operator_value_value.Given as goal

abbrev pub decreases-entry_value : goal.decreases-entry_value
decreases-entry_value l = 2 * l.n

abbrev pub decreases-negation_value : goal.decreases-negation_value
decreases-negation_value l = 2 * l.n

abbrev pub decreases-operator_value : goal.decreases-operator_value
decreases-operator_value l = 2 * l.n

abbrev pub decreases-value : goal.decreases-value
decreases-value l = 2 * l.n + 1
