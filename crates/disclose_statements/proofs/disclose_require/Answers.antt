-- A require discloses what its condition does, and goes through where that is true.
use Rattle.kit.specs.Names.{refl, arith}
use Rattle.honest_values.proofs.ValuesByKind.{kind_as}
use Rattle.disclose_expressions.proofs.ExpressionsByKind.{value_here}
use Rattle.theory_trees.proofs.ByKind.{require_is, required_below}
use Rattle.file_accepted.proofs.Nodes.{node_reads}
use Rattle.disclose_statements.proofs.StatementsByKind.{expression_ready, require_room, require_disclosed}
use Rattle.disclose_statements.proofs.disclose_require.Goals as goal

pub node_at-node-requires : goal.node_at-node-requires
node_at-node-requires c =
    let (_, ready) = c.requires in (c.args.function.now.context.narrow, omega (arith, c.args.function.now.context.long, ready.inside))

pub disclose_expression-told-requires : goal.disclose_expression-told-requires
disclose_expression-told-requires c = let (kind-at-is, ready) = c.requires in
    let same = c.node_at-node.ensures.same in
    let read = node_reads _ _ _ c.args.function.now.context _ ready.inside _ same in
    let kind = kind_as _ _ _ same kind-at-is in
    let less = required_below read kind in
    expression_ready _ _ _ _ _ _ _ _ _ _ ready less (require_room _ _ _ _ _ _ _ (require_is read kind) c.args.out.now _ ready.room)

pub value_asked-condition-requires : goal.value_asked-condition-requires
value_asked-condition-requires c = let (kind-at-is, ready) = c.requires in
    let same = c.node_at-node.ensures.same in
    let read = node_reads _ _ _ c.args.function.now.context _ ready.inside _ same in
    let kind = kind_as _ _ _ same kind-at-is in
    let less = required_below read kind in omega (arith, ready.inside, less)

pub returns : goal.returns
returns c = let (kind-at-is, ready) = c.requires in
    let same = c.node_at-node.ensures.same in
    let read = node_reads _ _ _ c.args.function.now.context _ ready.inside _ same in
    let kind = kind_as _ _ _ same kind-at-is in
    require_disclosed _ _ _ _ _ _ _ (require_is read kind) _ _ _ _ _ _ c.disclose_expression-told.ensures
    (value_here _ _ _ _ _ _ _ ready.called c.value_asked-condition.ensures) refl c.holds.ensures
