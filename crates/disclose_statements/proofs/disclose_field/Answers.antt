-- A field's assignment discloses what its value does, and puts that value in its place.
use Rattle.kit.specs.Names.{arith}
use Rattle.honest_values.proofs.ValuesByKind.{kind_as}
use Rattle.disclose_expressions.proofs.ExpressionsByKind.{value_here}
use Rattle.theory_trees.proofs.ByKind.{assign_field_is, value_below}
use Rattle.file_accepted.proofs.Nodes.{node_reads}
use Rattle.disclose_statements.proofs.StatementsByKind.{expression_ready, field_room, field_disclosed}
use Rattle.disclose_statements.proofs.disclose_field.Goals as goal

pub node_at-node-requires : goal.node_at-node-requires
node_at-node-requires c =
    let (_, ready) = c.requires in (c.args.function.now.context.narrow, omega (arith, c.args.function.now.context.long, ready.inside))

pub disclose_expression-told-requires : goal.disclose_expression-told-requires
disclose_expression-told-requires c = let (kind-at-is, ready) = c.requires in
    let same = c.node_at-node.ensures.same in
    let read = node_reads _ _ _ c.args.function.now.context _ ready.inside _ same in
    let kind = kind_as _ _ _ same kind-at-is in
    let less = value_below read kind in
    expression_ready _ _ _ _ _ _ _ _ _ _ ready less (field_room _ _ _ _ _ _ _ _ (assign_field_is read kind) c.args.out.now _ ready.room)

pub value_asked-v-requires : goal.value_asked-v-requires
value_asked-v-requires c = let (kind-at-is, ready) = c.requires in
    let same = c.node_at-node.ensures.same in
    let read = node_reads _ _ _ c.args.function.now.context _ ready.inside _ same in
    let kind = kind_as _ _ _ same kind-at-is in
    let less = value_below read kind in omega (arith, ready.inside, less)

pub position-p-requires : goal.position-p-requires
position-p-requires c = let (_, ready) = c.requires in
    (c.args.function.now.context.few_fields, omega arith)

pub returns : goal.returns
returns c = let (kind-at-is, ready) = c.requires in
    let same = c.node_at-node.ensures.same in
    let read = node_reads _ _ _ c.args.function.now.context _ ready.inside _ same in
    let kind = kind_as _ _ _ same kind-at-is in
    field_disclosed _ _ _ _ _ _ _ _ (assign_field_is read kind) _ _ _ _ _ _ _ c.disclose_expression-told.ensures
    (value_here _ _ _ _ _ _ _ ready.called c.value_asked-v.ensures) c.position-p.ensures c.put_number.ensures
