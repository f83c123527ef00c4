-- A body's form by the kind of its node, operators and negations: the node number falls.
use Rattle.std.specs.Prelude.{◌+◌, ◌*◌}
use Rattle.write_body_expressions.proofs.+write_body_form_write_body_negation_write_body_operator.Given as goal

abbrev pub decreases-write_body_form : goal.decreases-write_body_form
decreases-write_body_form l = 2 * l.n + 1

abbrev pub decreases-write_body_negation : goal.decreases-write_body_negation
decreases-write_body_negation l = 2 * l.n

abbrev pub decreases-write_body_operator : goal.decreases-write_body_operator
decreases-write_body_operator l = 2 * l.n
