use Rattle.kit.specs.Names.{arith, rules}
use Rattle.write_trees.proofs.Read.{read_here}
use Rattle.write_trees.proofs.ByKind.{body_constant, body_field, body_entry, body_parameter, body_operator, body_negation, body_variable, body_rest, one_falls, two_fall, form_entry, form_operator, form_negation}
use Rattle.walk_expressions.proofs.ExpressionsByKind.{constant_gives, me_gives, field_gives, entry_gives, parameter_gives, variable_gives, operator_gives, negation_gives}
use Rattle.walk_expressions.proofs.+evaluate.Goals as goal

pub read_node-node-requires : goal.read_node-node-requires
read_node-node-requires t c = let (_, (readable, _)) = c.requires in omega (arith, readable.few)

pub constant_of-requires : goal.constant_of-requires
constant_of-requires t c = let read-node = c.read_node-node.ensures in (read-node.small_first, read-node.small_second)

pub given_place-requires : goal.given_place-requires
given_place-requires t c = let (_, (_, field-count-bound)) = c.requires in field-count-bound

pub evaluate-key-requires : goal.evaluate-key-requires
evaluate-key-requires t c = let (n-bound, (readable, field-count-bound)) = c.requires in
    let less = one_falls _ readable.falling _ _ (read_here _ _ n-bound _ c.read_node-node.ensures) (form_entry _ c.in-4.is) in
    (omega arith, (omega arith, (readable, field-count-bound)))

pub given_place-requires-in-4 : goal.given_place-requires-in-4
given_place-requires-in-4 t c = let (_, (_, field-count-bound)) = c.requires in
    field-count-bound

pub evaluate-left-requires : goal.evaluate-left-requires
evaluate-left-requires t c = let (n-bound, (readable, field-count-bound)) = c.requires in
    let less = two_fall _ readable.falling _ _ (read_here _ _ n-bound _ c.read_node-node.ensures) (form_operator _ c.in-6.is) in
    (omega arith, (omega arith, (readable, field-count-bound)))

pub evaluate-right-requires : goal.evaluate-right-requires
evaluate-right-requires t c = let (n-bound, (readable, field-count-bound)) = c.requires in
    let less = two_fall _ readable.falling _ _ (read_here _ _ n-bound _ c.read_node-node.ensures) (form_operator _ c.in-6.is) in
    (omega arith, (omega arith, (readable, field-count-bound)))

pub evaluate-requires : goal.evaluate-requires
evaluate-requires t c = let (n-bound, (readable, field-count-bound)) = c.requires in
    let less = one_falls _ readable.falling _ _ (read_here _ _ n-bound _ c.read_node-node.ensures) (form_negation _ c.in-7.is) in
    (omega arith, (omega arith, (readable, field-count-bound)))

pub returns-in-1 : goal.returns-in-1
returns-in-1 t c = let (n-bound, (readable, _)) = c.requires in
    constant_gives _ _ _ _ _ _ _ _ _ _ (body_constant _ readable.falling _ _ (read_here _ _ n-bound _ c.read_node-node.ensures) c.in-1.is) c.constant_of.ensures c.given_number.ensures

pub returns-in-3 : goal.returns-in-3
returns-in-3 t c = let (n-bound, (readable, _)) = c.requires in
    field_gives _ _ _ _ _ _ _ _ (body_field _ readable.falling _ _ (read_here _ _ n-bound _ c.read_node-node.ensures) c.in-3.is) c.given_place.ensures

pub returns-in-4 : goal.returns-in-4
returns-in-4 t c = let (n-bound, (readable, _)) = c.requires in
    entry_gives _ _ _ _ _ _ _ _ _ _ _ (body_entry _ readable.falling _ _ (read_here _ _ n-bound _ c.read_node-node.ensures) c.in-4.is) c.evaluate-key.ensures c.number_of.ensures c.given_place-in-4.ensures

pub returns-in-5 : goal.returns-in-5
returns-in-5 t c = let (n-bound, (readable, _)) = c.requires in
    parameter_gives _ _ _ _ _ _ _ _ (body_parameter _ readable.falling _ _ (read_here _ _ n-bound _ c.read_node-node.ensures) c.in-5.is) c.given_item.ensures

pub returns-in-6 : goal.returns-in-6
returns-in-6 t c = let (n-bound, (readable, _)) = c.requires in
    let read-node = c.read_node-node in
    operator_gives _ _ _ _ _ _ _ read-node.result.arg _ _ _ _ (body_operator _ readable.falling _ _ (read_here _ _ n-bound _ read-node.ensures) c.in-6.is) c.evaluate-left.ensures c.evaluate-right.ensures c.combined.ensures

pub returns-in-7 : goal.returns-in-7
returns-in-7 t c = let (n-bound, (readable, _)) = c.requires in
    negation_gives _ _ _ _ _ _ _ _ _ (body_negation _ readable.falling _ _ (read_here _ _ n-bound _ c.read_node-node.ensures) c.in-7.is) c.evaluate.ensures c.opposite.ensures

pub returns-in-9 : goal.returns-in-9
returns-in-9 t c = let (n-bound, (readable, _)) = c.requires in
    variable_gives _ _ _ _ _ _ _ _ (body_variable _ readable.falling _ _ (read_here _ _ n-bound _ c.read_node-node.ensures) c.in-9.is) c.given_item-in-9.ensures

pub returns-in_default : goal.returns-in_default
returns-in_default t c = let (n-bound, (readable, _)) = c.requires in
    me_gives _ _ _ _ _ _ _ _ (body_rest _ readable.falling _ _ (read_here _ _ n-bound _ c.read_node-node.ensures) (record { constant = (search rules); field = (search rules); entry = (search rules); parameter = (search rules); operator = (search rules); negation = (search rules); variable = (search rules) })) c.number_at.ensures c.given_number-in_default.ensures
