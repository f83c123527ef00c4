-- The five meet their contracts, as a cycle: around it the node number falls, or a node asks for its own supply, circuit or parts.
use Rattle.std.specs.Prelude.{◌+◌, ◌*◌}
use Rattle.honest_supplies.proofs.+body_parts_body_slots_circuit_parts_circuit_slots_supply_slots.Given as goal

abbrev pub decreases-body_parts : goal.decreases-body_parts
decreases-body_parts l = 4 * l.n

abbrev pub decreases-body_slots : goal.decreases-body_slots
decreases-body_slots l = 4 * l.n + 3

abbrev pub decreases-circuit_parts : goal.decreases-circuit_parts
decreases-circuit_parts l = 4 * l.n

abbrev pub decreases-circuit_slots : goal.decreases-circuit_slots
decreases-circuit_slots l = 4 * l.n + 1

abbrev pub decreases-supply_slots : goal.decreases-supply_slots
decreases-supply_slots l = 4 * l.n + 2
