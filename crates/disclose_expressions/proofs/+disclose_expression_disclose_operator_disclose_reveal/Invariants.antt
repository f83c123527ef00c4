-- The values that nodes disclose, by their kind, as a cycle: the node number falls, or the same node goes on to its own kind.
use Rattle.std.specs.Prelude.{◌+◌, ◌*◌}
use Rattle.disclose_expressions.proofs.+disclose_expression_disclose_operator_disclose_reveal.Given as goal

abbrev pub decreases-disclose_expression : goal.decreases-disclose_expression
decreases-disclose_expression l = 2 * l.n + 1

abbrev pub decreases-disclose_operator : goal.decreases-disclose_operator
decreases-disclose_operator l = 2 * l.n

abbrev pub decreases-disclose_reveal : goal.decreases-disclose_reveal
decreases-disclose_reveal l = 2 * l.n
