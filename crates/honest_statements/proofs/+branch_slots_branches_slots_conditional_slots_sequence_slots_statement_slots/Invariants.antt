-- Statements by the kind of their node, sequences, conditionals and branches meet their contracts as a cycle: the node number falls, or the same node goes on to a part of the work.
use Rattle.std.specs.Prelude.{◌+◌, ◌*◌}
use Rattle.honest_statements.proofs.+branch_slots_branches_slots_conditional_slots_sequence_slots_statement_slots.Given as goal

abbrev pub decreases-branch_slots : goal.decreases-branch_slots
decreases-branch_slots l = 4 * l.n + 3

abbrev pub decreases-branches_slots : goal.decreases-branches_slots
decreases-branches_slots l = 4 * l.n

abbrev pub decreases-conditional_slots : goal.decreases-conditional_slots
decreases-conditional_slots l = 4 * l.n + 1

abbrev pub decreases-sequence_slots : goal.decreases-sequence_slots
decreases-sequence_slots l = 4 * l.n + 1

abbrev pub decreases-statement_slots : goal.decreases-statement_slots
decreases-statement_slots l = 4 * l.n + 2
