use Rattle.kit.specs.Names.{sym, ◌∙◌, arith}
use Rattle.theory_laws.proofs.Records.{kind_as}
use Rattle.theory_trees.proofs.ByKind.{required_below}
use Rattle.file_accepted.proofs.Nodes.{node_reads}
use Rattle.write_nodes.proofs.TreeNodes.{room_as, room_one, room_above_one, numbered_as, numbered_one}
use Rattle.write_simple_statements.proofs.Nodes.{require_form, require_count}
use Rattle.write_simple_statements.proofs.write_require_form.Goals as goal

pub node_at-node-requires : goal.node_at-node-requires
node_at-node-requires c = let context = c.args.function.now.context in (context.narrow, omega (arith, context.long))

pub write_body_form-condition-requires : goal.write_body_form-condition-requires
write_body_form-condition-requires c = let (kind-at-is, (n-bound, (i-bound, room))) = c.requires in
    let context = c.args.function.now.context in
    let node-at-same = c.node_at-node.ensures.same in
    let less = required_below (node_reads _ _ _ context _ n-bound _ node-at-same) (kind_as _ _ 20 (sym node-at-same) kind-at-is) in
    let h = require_count _ _ _ context _ n-bound _ node-at-same (kind_as _ _ 20 (sym node-at-same) kind-at-is) in
    (omega arith, (omega (arith, i-bound), room_one _ _ _ _ _ _ (room_as _ _ _ _ _ (require_form _ _ _ context _ n-bound _ node-at-same _ (kind_as _ _ 20 (sym node-at-same) kind-at-is)) room)))

pub put_above_one-requires : goal.put_above_one-requires
put_above_one-requires c = let (kind-at-is, (n-bound, (_, room))) = c.requires in let context = c.args.function.now.context in
    let node-at-same = c.node_at-node.ensures.same in
    room_above_one _ _ _ _ _ _ (room_as _ _ _ _ _ (require_form _ _ _ context _ n-bound _ node-at-same _ (kind_as _ _ 20 (sym node-at-same) kind-at-is)) room) _ _ c.write_body_form-condition.ensures

pub shape_of-out : goal.shape_of-out
shape_of-out c = c.put_above_one.auto.out ∙ c.write_body_form-condition.auto.out

pub returns : goal.returns
returns c = let (kind-at-is, (n-bound, (_, room))) = c.requires in let context = c.args.function.now.context in
    let node-at-same = c.node_at-node.ensures.same in
    let write-body-form = c.write_body_form-condition.ensures in
    let put-above-one = c.put_above_one.ensures in
    numbered_as _ _ _ _ _ _ _ _ (require_form _ _ _ context _ n-bound _ node-at-same _ (kind_as _ _ 20 (sym node-at-same) kind-at-is)) put-above-one.1 (numbered_one _ _ _ _ _ _ (room_as _ _ _ _ _ (require_form _ _ _ context _ n-bound _ node-at-same _ (kind_as _ _ 20 (sym node-at-same) kind-at-is)) room) _ _ _ write-body-form put-above-one.0)
