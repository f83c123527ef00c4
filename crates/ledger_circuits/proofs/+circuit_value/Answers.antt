use Rattle.kit.specs.Names.{arith, rules}
use Rattle.write_trees.proofs.Read.{read_here}
use Rattle.write_trees.proofs.ByKind.{circuit_constant, circuit_operator, circuit_negation, circuit_variable, circuit_opened, circuit_rest, one_falls, two_fall, form_operator, form_negation}
use Rattle.ledger_circuits.proofs.Values.{constant_value_law, me_value, operator_value, negation_value, variable_value, opened_value}
use Rattle.ledger_circuits.proofs.+circuit_value.Goals as goal

pub read_node-node-requires : goal.read_node-node-requires
read_node-node-requires t c = let (_, readable) = c.requires in omega (arith, readable.few)

pub constant_of-requires : goal.constant_of-requires
constant_of-requires t c = let read-node = c.read_node-node.ensures in (read-node.small_first, read-node.small_second)

pub circuit_value-left-requires : goal.circuit_value-left-requires
circuit_value-left-requires t c = let (n-bound, readable) = c.requires in
    let less = two_fall _ readable.falling _ _ (read_here _ _ n-bound _ c.read_node-node.ensures) (form_operator _ c.in-6.is) in
    (omega arith, (omega arith, readable))

pub circuit_value-right-requires : goal.circuit_value-right-requires
circuit_value-right-requires t c = let (n-bound, readable) = c.requires in
    let less = two_fall _ readable.falling _ _ (read_here _ _ n-bound _ c.read_node-node.ensures) (form_operator _ c.in-6.is) in
    (omega arith, (omega arith, readable))

pub circuit_value-requires : goal.circuit_value-requires
circuit_value-requires t c = let (n-bound, readable) = c.requires in
    let less = one_falls _ readable.falling _ _ (read_here _ _ n-bound _ c.read_node-node.ensures) (form_negation _ c.in-7.is) in
    (omega arith, (omega arith, readable))

pub returns-in-1 : goal.returns-in-1
returns-in-1 t c = let (n-bound, readable) = c.requires in
    constant_value_law _ _ _ _ _ _ (circuit_constant _ readable.falling _ _ (read_here _ _ n-bound _ c.read_node-node.ensures) c.in-1.is) c.constant_of.ensures

pub returns-in-6 : goal.returns-in-6
returns-in-6 t c = let (n-bound, readable) = c.requires in
    operator_value _ _ _ _ _ _ _ _ _ (circuit_operator _ readable.falling _ _ (read_here _ _ n-bound _ c.read_node-node.ensures) c.in-6.is) c.circuit_value-left.ensures c.circuit_value-right.ensures c.operated.ensures

pub returns-in-7 : goal.returns-in-7
returns-in-7 t c = let (n-bound, readable) = c.requires in
    negation_value _ _ _ _ _ _ (circuit_negation _ readable.falling _ _ (read_here _ _ n-bound _ c.read_node-node.ensures) c.in-7.is) c.circuit_value.ensures c.negated.ensures

pub returns-in-9 : goal.returns-in-9
returns-in-9 t c = let (n-bound, readable) = c.requires in
    variable_value _ _ _ _ _ (circuit_variable _ readable.falling _ _ (read_here _ _ n-bound _ c.read_node-node.ensures) c.in-9.is) c.plain_at.ensures

pub returns-in-10 : goal.returns-in-10
returns-in-10 t c = let (n-bound, readable) = c.requires in
    opened_value _ _ _ _ _ (circuit_opened _ readable.falling _ _ (read_here _ _ n-bound _ c.read_node-node.ensures) c.in-10.is) c.opened_at.ensures

pub returns-in_default : goal.returns-in_default
returns-in_default t c = let (n-bound, readable) = c.requires in me_value _ _ _ _ (circuit_rest _ readable.falling _ _ (read_here _ _ n-bound _ c.read_node-node.ensures) (record { constant = (search rules); operator = (search rules); negation = (search rules); variable = (search rules); opened = (search rules) })) c.number_at.ensures
