use Rattle.kit.specs.Names.{sym, ◌∙◌, arith}
use Rattle.theory_laws.proofs.Records.{kind_as}
use Rattle.theory_trees.proofs.ByKind.{value_below}
use Rattle.file_accepted.proofs.Nodes.{node_reads}
use Rattle.write_nodes.proofs.TreeNodes.{room_as, room_one, room_above_one, numbered_as, numbered_one}
use Rattle.write_simple_statements.proofs.Nodes.{field_form, field_count_law}
use Rattle.write_simple_statements.proofs.write_field_form.Goals as goal

pub node_at-node-requires : goal.node_at-node-requires
node_at-node-requires c = let context = c.args.function.now.context in (context.narrow, omega (arith, context.long))

pub overflow_cast-arg : goal.overflow_cast-arg
overflow_cast-arg c = omega (arith, c.node_at-node.ensures.small_arg)

pub is_private_place-private-requires : goal.is_private_place-private-requires
is_private_place-private-requires c = let context = c.args.function.now.context in
    (c.node_at-node.ensures.small_arg, record { at = context.field_listed })

pub write_placed_form-value-requires : goal.write_placed_form-value-requires
write_placed_form-value-requires c = let (kind-at-is, (n-bound, (i-bound, room))) = c.requires in
    let context = c.args.function.now.context in
    let node-at-same = c.node_at-node.ensures.same in let is-private-place = c.is_private_place-private.ensures in
    let less = value_below (node_reads _ _ _ context _ n-bound _ node-at-same) (kind_as _ _ 18 (sym node-at-same) kind-at-is) in
    let h = field_count_law _ _ _ context _ n-bound _ node-at-same _ is-private-place (kind_as _ _ 18 (sym node-at-same) kind-at-is) in
    (omega arith, (omega (arith, i-bound), room_one _ _ _ _ _ _ (room_as _ _ _ _ _ (field_form _ _ _ context _ n-bound _ node-at-same _ is-private-place _ (kind_as _ _ 18 (sym node-at-same) kind-at-is)) room)))

pub put_above_one-requires : goal.put_above_one-requires
put_above_one-requires c = let (kind-at-is, (n-bound, (_, room))) = c.requires in let context = c.args.function.now.context in
    let node-at-same = c.node_at-node.ensures.same in
    let is-private-place = c.is_private_place-private.ensures in
    room_above_one _ _ _ _ _ _ (room_as _ _ _ _ _ (field_form _ _ _ context _ n-bound _ node-at-same _ is-private-place _ (kind_as _ _ 18 (sym node-at-same) kind-at-is)) room) _ _ c.write_placed_form-value.ensures

pub shape_of-out : goal.shape_of-out
shape_of-out c = c.put_above_one.auto.out ∙ c.write_placed_form-value.auto.out

pub returns : goal.returns
returns c = let (kind-at-is, (n-bound, (_, room))) = c.requires in let context = c.args.function.now.context in
    let node-at-same = c.node_at-node.ensures.same in
    let is-private-place = c.is_private_place-private.ensures in
    let write-placed-form = c.write_placed_form-value.ensures in
    let put-above-one = c.put_above_one.ensures in
    numbered_as _ _ _ _ _ _ _ _ (field_form _ _ _ context _ n-bound _ node-at-same _ is-private-place _ (kind_as _ _ 18 (sym node-at-same) kind-at-is)) put-above-one.1 (numbered_one _ _ _ _ _ _ (room_as _ _ _ _ _ (field_form _ _ _ context _ n-bound _ node-at-same _ is-private-place _ (kind_as _ _ 18 (sym node-at-same) kind-at-is)) room) _ _ _ write-placed-form put-above-one.0)
