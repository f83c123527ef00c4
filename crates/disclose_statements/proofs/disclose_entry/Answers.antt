-- An entry's assignment discloses what its key does, and what its value does where the key is worked out.
use Rattle.kit.specs.Names.{arith, not-true, not-false}
use Rattle.honest_values.proofs.ValuesByKind.{kind_as}
use Rattle.disclose_expressions.proofs.ExpressionsByKind.{value_here}
use Rattle.theory_trees.proofs.ByKind.{assign_entry_is, key_and_value_below}
use Rattle.file_accepted.proofs.Nodes.{node_reads}
use Rattle.disclose_statements.proofs.StatementsByKind.{expression_ready, key_stopped, key_room, value_room, entry_disclosed}
use Rattle.disclose_statements.proofs.disclose_entry.Goals as goal

pub node_at-node-requires : goal.node_at-node-requires
node_at-node-requires c =
    let (_, ready) = c.requires in (c.args.function.now.context.narrow, omega (arith, c.args.function.now.context.long, ready.inside))

pub disclose_expression-key-requires : goal.disclose_expression-key-requires
disclose_expression-key-requires c = let (kind-at-is, ready) = c.requires in
    let same = c.node_at-node.ensures.same in
    let read = node_reads _ _ _ c.args.function.now.context _ ready.inside _ same in
    let kind = kind_as _ _ _ same kind-at-is in
    let less = key_and_value_below read kind in
    expression_ready _ _ _ _ _ _ _ _ _ _ ready less.0 (key_room _ _ _ _ _ _ _ _ _ (assign_entry_is read kind) c.args.out.now _ ready.room)

pub returns-then-not-key : goal.returns-then-not-key
returns-then-not-key c = let (kind-at-is, ready) = c.requires in
    let same = c.node_at-node.ensures.same in
    let read = node_reads _ _ _ c.args.function.now.context _ ready.inside _ same in
    let kind = kind_as _ _ _ same kind-at-is in
    key_stopped _ _ _ _ _ _ _ _ _ (assign_entry_is read kind) _ _ _ _ _ (not-true _ c.if-not-key.true) c.disclose_expression-key.ensures

pub disclose_expression-told-requires : goal.disclose_expression-told-requires
disclose_expression-told-requires c = let (kind-at-is, ready) = c.requires in
    let same = c.node_at-node.ensures.same in
    let read = node_reads _ _ _ c.args.function.now.context _ ready.inside _ same in
    let kind = kind_as _ _ _ same kind-at-is in let less = key_and_value_below read kind in
    expression_ready _ _ _ _ _ _ _ _ _ _ ready less.1 (value_room _ _ _ _ _ _ _ _ _
    (assign_entry_is read kind) _ _ ready.room _ _ c.disclose_expression-key.ensures (not-false _ c.if-not-key.false))

pub value_asked-k-requires : goal.value_asked-k-requires
value_asked-k-requires c = let (kind-at-is, ready) = c.requires in
    let same = c.node_at-node.ensures.same in
    let read = node_reads _ _ _ c.args.function.now.context _ ready.inside _ same in
    let kind = kind_as _ _ _ same kind-at-is in let less = key_and_value_below read kind in
    omega (arith, ready.inside, less.0)

pub value_asked-v-requires : goal.value_asked-v-requires
value_asked-v-requires c = let (kind-at-is, ready) = c.requires in
    let same = c.node_at-node.ensures.same in
    let read = node_reads _ _ _ c.args.function.now.context _ ready.inside _ same in
    let kind = kind_as _ _ _ same kind-at-is in let less = key_and_value_below read kind in
    omega (arith, ready.inside, less.1)

pub position-p-requires : goal.position-p-requires
position-p-requires c = let (_, ready) = c.requires in
    (c.args.function.now.context.few_fields, omega arith)

pub returns : goal.returns
returns c = let (kind-at-is, ready) = c.requires in
    let same = c.node_at-node.ensures.same in
    let read = node_reads _ _ _ c.args.function.now.context _ ready.inside _ same in
    let kind = kind_as _ _ _ same kind-at-is in
    entry_disclosed _ _ _ _ _ _ _ _ _ (assign_entry_is read kind) _ _ ready.room _ _ c.disclose_expression-key.ensures
    (not-false _ c.if-not-key.false) _ _ _ _ _ _ c.disclose_expression-told.ensures
    (value_here _ _ _ _ _ _ _ ready.called c.value_asked-k.ensures)
    (value_here _ _ _ _ _ _ _ ready.called c.value_asked-v.ensures) c.position-p.ensures c.put_number.ensures
