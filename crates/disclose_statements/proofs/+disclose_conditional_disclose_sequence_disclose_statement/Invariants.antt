-- The values that statements disclose, by their kind, as a cycle: the node number falls, or the same node goes on to its own kind.
use Rattle.std.specs.Prelude.{◌+◌, ◌*◌}
use Rattle.disclose_statements.proofs.+disclose_conditional_disclose_sequence_disclose_statement.Given as goal

abbrev pub decreases-disclose_conditional : goal.decreases-disclose_conditional
decreases-disclose_conditional l = 2 * l.n

abbrev pub decreases-disclose_sequence : goal.decreases-disclose_sequence
decreases-disclose_sequence l = 2 * l.n

abbrev pub decreases-disclose_statement : goal.decreases-disclose_statement
decreases-disclose_statement l = 2 * l.n + 1
