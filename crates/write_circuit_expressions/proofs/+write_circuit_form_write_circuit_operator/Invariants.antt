-- A circuit's form by the kind of its node, and operators: the node number falls.
-- What is put for an operator stands above the other answers: a right operand from another variable on is refused here first.
use Rattle.std.specs.Prelude.{◌+◌, ◌*◌}
use Rattle.write_circuit_expressions.proofs.+write_circuit_form_write_circuit_operator.Given as goal

abbrev pub decreases-write_circuit_form : goal.decreases-write_circuit_form
decreases-write_circuit_form l = 2 * l.n + 1

abbrev pub decreases-write_circuit_operator : goal.decreases-write_circuit_operator
decreases-write_circuit_operator l = 2 * l.n
