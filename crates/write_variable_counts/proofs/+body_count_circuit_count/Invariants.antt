-- The two counts meet their contracts, as a cycle: around it the node number falls, or a body's count asks for the same node's circuit.
use Rattle.std.specs.Prelude.{◌+◌, ◌*◌}
use Rattle.write_variable_counts.proofs.+body_count_circuit_count.Given as goal

abbrev pub decreases-body_count : goal.decreases-body_count
decreases-body_count l = 2 * l.n + 1

abbrev pub decreases-circuit_count : goal.decreases-circuit_count
decreases-circuit_count l = 2 * l.n
