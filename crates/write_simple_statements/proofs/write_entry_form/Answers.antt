use Rattle.kit.specs.Names.{sym, ◌∙◌, arith}
use Rattle.theory_laws.proofs.Records.{kind_as}
use Rattle.theory_trees.proofs.ByKind.{key_and_value_below}
use Rattle.file_accepted.proofs.Nodes.{node_reads}
use Rattle.write_nodes.proofs.TreeNodes.{room_as, room_left, room_right, room_above_two, numbered_as, numbered_two}
use Rattle.write_simple_statements.proofs.Nodes.{entry_form_law, entry_count}
use Rattle.write_simple_statements.proofs.write_entry_form.Goals as goal

pub node_at-node-requires : goal.node_at-node-requires
node_at-node-requires c = let context = c.args.function.now.context in (context.narrow, omega (arith, context.long))

pub overflow_cast-arg : goal.overflow_cast-arg
overflow_cast-arg c = omega (arith, c.node_at-node.ensures.small_arg)

pub is_private_place-private-requires : goal.is_private_place-private-requires
is_private_place-private-requires c = let context = c.args.function.now.context in
    (c.node_at-node.ensures.small_arg, record { at = context.field_listed })

pub body_count-requires : goal.body_count-requires
body_count-requires c = let (kind-at-is, (n-bound, (i-bound, _))) = c.requires in let context = c.args.function.now.context in
    let node-at-same = c.node_at-node.ensures.same in
    let less = key_and_value_below (node_reads _ _ _ context _ n-bound _ node-at-same) (kind_as _ _ 19 (sym node-at-same) kind-at-is) in
    let h = entry_count _ _ _ context _ n-bound _ node-at-same _ c.is_private_place-private.ensures (kind_as _ _ 19 (sym node-at-same) kind-at-is) in
    (omega arith, omega (arith, i-bound))

pub overflow_add-j : goal.overflow_add-j
overflow_add-j c = let (kind-at-is, (n-bound, (i-bound, _))) = c.requires in let context = c.args.function.now.context in
    let node-at-same = c.node_at-node.ensures.same in
    let h = entry_count _ _ _ context _ n-bound _ node-at-same _ c.is_private_place-private.ensures (kind_as _ _ 19 (sym node-at-same) kind-at-is) in
    omega (arith, i-bound, c.body_count.ensures)

pub write_body_form-key-requires : goal.write_body_form-key-requires
write_body_form-key-requires c = let (kind-at-is, (n-bound, (i-bound, room))) = c.requires in let context = c.args.function.now.context in
    let node-at-same = c.node_at-node.ensures.same in
    let is-private-place = c.is_private_place-private.ensures in
    let less = key_and_value_below (node_reads _ _ _ context _ n-bound _ node-at-same) (kind_as _ _ 19 (sym node-at-same) kind-at-is) in
    let h = entry_count _ _ _ context _ n-bound _ node-at-same _ is-private-place (kind_as _ _ 19 (sym node-at-same) kind-at-is) in
    (omega arith, (omega (arith, i-bound), room_left _ _ _ _ _ _ _ (room_as _ _ _ _ _ (entry_form_law _ _ _ context _ n-bound _ node-at-same _ is-private-place _ (kind_as _ _ 19 (sym node-at-same) kind-at-is) _ c.body_count.ensures) room)))

pub overflow_mul-a : goal.overflow_mul-a
overflow_mul-a c = let (kind-at-is, (n-bound, (_, room))) = c.requires in let context = c.args.function.now.context in
    let node-at-same = c.node_at-node.ensures.same in
    let is-private-place = c.is_private_place-private.ensures in
    let right = room_right _ _ _ _ _ _ _ (room_as _ _ _ _ _ (entry_form_law _ _ _ context _ n-bound _ node-at-same _ is-private-place _ (kind_as _ _ 19 (sym node-at-same) kind-at-is) _ c.body_count.ensures) room) _ _ c.write_body_form-key.ensures in
    omega (arith, right.numbers)

pub overflow_add-a : goal.overflow_add-a
overflow_add-a c = let (kind-at-is, (n-bound, (_, room))) = c.requires in let context = c.args.function.now.context in
    let node-at-same = c.node_at-node.ensures.same in
    let is-private-place = c.is_private_place-private.ensures in
    let right = room_right _ _ _ _ _ _ _ (room_as _ _ _ _ _ (entry_form_law _ _ _ context _ n-bound _ node-at-same _ is-private-place _ (kind_as _ _ 19 (sym node-at-same) kind-at-is) _ c.body_count.ensures) room) _ _ c.write_body_form-key.ensures in
    omega (arith, right.bytes)

pub overflow_add-b : goal.overflow_add-b
overflow_add-b c = let (kind-at-is, (n-bound, (_, room))) = c.requires in let context = c.args.function.now.context in
    let node-at-same = c.node_at-node.ensures.same in
    let is-private-place = c.is_private_place-private.ensures in
    let right = room_right _ _ _ _ _ _ _ (room_as _ _ _ _ _ (entry_form_law _ _ _ context _ n-bound _ node-at-same _ is-private-place _ (kind_as _ _ 19 (sym node-at-same) kind-at-is) _ c.body_count.ensures) room) _ _ c.write_body_form-key.ensures in
    omega (arith, right.numbers)

pub write_placed_form-value-requires : goal.write_placed_form-value-requires
write_placed_form-value-requires c = let (kind-at-is, (n-bound, (i-bound, room))) = c.requires in
    let context = c.args.function.now.context in
    let node-at-same = c.node_at-node.ensures.same in
    let is-private-place = c.is_private_place-private.ensures in
    let body_count_law = c.body_count.ensures in
    let less = key_and_value_below (node_reads _ _ _ context _ n-bound _ node-at-same) (kind_as _ _ 19 (sym node-at-same) kind-at-is) in
    let h = entry_count _ _ _ context _ n-bound _ node-at-same _ is-private-place (kind_as _ _ 19 (sym node-at-same) kind-at-is) in
    (omega arith, (omega (arith, i-bound, body_count_law), room_right _ _ _ _ _ _ _ (room_as _ _ _ _ _ (entry_form_law _ _ _ context _ n-bound _ node-at-same _ is-private-place _ (kind_as _ _ 19 (sym node-at-same) kind-at-is) _ body_count_law) room) _ _ c.write_body_form-key.ensures))

pub put_above_two-requires : goal.put_above_two-requires
put_above_two-requires c = let (kind-at-is, (n-bound, (_, room))) = c.requires in let context = c.args.function.now.context in
    let node-at-same = c.node_at-node.ensures.same in
    let is-private-place = c.is_private_place-private.ensures in
    let body_count_law = c.body_count.ensures in
    let write-body-form = c.write_body_form-key.ensures in
    room_above_two _ _ _ _ _ _ _ (room_as _ _ _ _ _ (entry_form_law _ _ _ context _ n-bound _ node-at-same _ is-private-place _ (kind_as _ _ 19 (sym node-at-same) kind-at-is) _ body_count_law) room) _ _ write-body-form _ _ c.write_placed_form-value.ensures

pub shape_of-out : goal.shape_of-out
shape_of-out c = let write-body-form-kept = c.write_body_form-key.auto.out in
    let write-placed-form-kept = c.write_placed_form-value.auto.out in
    c.put_above_two.auto.out ∙ write-placed-form-kept ∙ write-body-form-kept

pub returns : goal.returns
returns c = let (kind-at-is, (n-bound, (_, room))) = c.requires in let context = c.args.function.now.context in
    let node-at-same = c.node_at-node.ensures.same in
    let is-private-place = c.is_private_place-private.ensures in
    let body_count_law = c.body_count.ensures in
    let write-body-form = c.write_body_form-key.ensures in
    let write-placed-form = c.write_placed_form-value.ensures in
    let put-above-two = c.put_above_two.ensures in
    numbered_as _ _ _ _ _ _ _ _ (entry_form_law _ _ _ context _ n-bound _ node-at-same _ is-private-place _ (kind_as _ _ 19 (sym node-at-same) kind-at-is) _ body_count_law) put-above-two.1 (numbered_two _ _ _ _ _ _ _ (room_as _ _ _ _ _ (entry_form_law _ _ _ context _ n-bound _ node-at-same _ is-private-place _ (kind_as _ _ 19 (sym node-at-same) kind-at-is) _ body_count_law) room) _ _ write-body-form _ _ write-placed-form _ put-above-two.0)
