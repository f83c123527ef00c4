use Rattle.kit.specs.Names.{sym, ◌∙◌, arith, rules}
use Rattle.theory_laws.proofs.Records.{kind_as}
use Rattle.theory_trees.proofs.ByKind.{key_below, part_below, operands_below}
use Rattle.file_accepted.proofs.Nodes.{node_reads}
use Rattle.write_nodes.proofs.TreeNodes.{room_as, room_any, room_one, room_left, room_right, room_above_one, room_above_two, numbered_as, numbered_leaf, numbered_one, numbered_two}
use Rattle.write_body_expressions.proofs.BodyNodes.{constant_body, field_body, entry_body, parameter_body, reveal_body, other_body, entry_count, operator_body, operator_count_law, supplied_operator_body, negation_body, negation_count, supplied_negation_body}
use Rattle.write_body_expressions.proofs.+write_body_form_write_body_negation_write_body_operator.Goals as goal

pub write_body_form-node_at-node-requires : goal.write_body_form-node_at-node-requires
write_body_form-node_at-node-requires t c = let context = c.args.function.now.context in (context.narrow, omega (arith, context.long))

pub write_body_form-overflow_cast-arg : goal.write_body_form-overflow_cast-arg
write_body_form-overflow_cast-arg t c = omega (arith, c.node_at-node.ensures.small_arg)

pub write_body_form-put_leaf-requires : goal.write_body_form-put_leaf-requires
write_body_form-put_leaf-requires t c = let (_, (_, room)) = c.requires in room_any _ _ _ _ room

pub write_body_form-put_leaf-requires-in-3 : goal.write_body_form-put_leaf-requires-in-3
write_body_form-put_leaf-requires-in-3 t c = let (_, (_, room)) = c.requires in room_any _ _ _ _ room

pub write_body_form-write_body_form-key-requires : goal.write_body_form-write_body_form-key-requires
write_body_form-write_body_form-key-requires t c = let (n-bound, (i-bound, room)) = c.requires in
    let context = c.args.function.now.context in
    let node-at-same = c.node_at-node.ensures.same in let match-keys3 = c.in-4.is in
    let less = key_below (node_reads _ _ _ context _ n-bound _ node-at-same) match-keys3 in
    let count = entry_count _ _ _ context _ n-bound _ node-at-same match-keys3 in
    (omega arith, (omega arith, (omega (arith, i-bound), room_one _ _ _ _ _ _ (room_as _ _ _ _ _ (entry_body _ _ _ context _ n-bound _ node-at-same _ match-keys3) room))))

pub write_body_form-put_above_one-requires : goal.write_body_form-put_above_one-requires
write_body_form-put_above_one-requires t c = let (n-bound, (_, room)) = c.requires in let context = c.args.function.now.context in
    let node-at-same = c.node_at-node.ensures.same in
    let match-keys3 = c.in-4.is in
    room_above_one _ _ _ _ _ _ (room_as _ _ _ _ _ (entry_body _ _ _ context _ n-bound _ node-at-same _ match-keys3) room) _ _ c.write_body_form-key.ensures

pub write_body_form-put_leaf-requires-in-5 : goal.write_body_form-put_leaf-requires-in-5
write_body_form-put_leaf-requires-in-5 t c = let (_, (_, room)) = c.requires in room_any _ _ _ _ room

pub write_body_form-write_body_operator-requires : goal.write_body_form-write_body_operator-requires
write_body_form-write_body_operator-requires t c = let (n-bound, (i-bound, room)) = c.requires in
    (omega arith, (kind_as _ _ 6 c.node_at-node.ensures.same c.in-6.is, (n-bound, (i-bound, room))))

pub write_body_form-write_body_negation-requires : goal.write_body_form-write_body_negation-requires
write_body_form-write_body_negation-requires t c = let (n-bound, (i-bound, room)) = c.requires in
    (omega arith, (kind_as _ _ 7 c.node_at-node.ensures.same c.in-7.is, (n-bound, (i-bound, room))))

pub write_body_form-put_leaf-requires-in-8 : goal.write_body_form-put_leaf-requires-in-8
write_body_form-put_leaf-requires-in-8 t c = let (_, (_, room)) = c.requires in room_any _ _ _ _ room

pub write_body_form-put_leaf-requires-in_default : goal.write_body_form-put_leaf-requires-in_default
write_body_form-put_leaf-requires-in_default t c = let (_, (_, room)) = c.requires in room_any _ _ _ _ room

pub write_body_form-shape_of-out-in-1 : goal.write_body_form-shape_of-out-in-1
write_body_form-shape_of-out-in-1 t c = c.put_leaf.auto.out

pub write_body_form-returns-in-1 : goal.write_body_form-returns-in-1
write_body_form-returns-in-1 t c = let (n-bound, _) = c.requires in let context = c.args.function.now.context in
    let node_at_law = c.node_at-node.ensures in let put-leaf = c.put_leaf.ensures in
    numbered_as _ _ _ _ _ _ _ _ (constant_body _ _ _ context _ n-bound _ node_at_law.same _ c.in-1.is node_at_law.small_first) put-leaf.1 (numbered_leaf _ _ _ _ _ _ _ _ put-leaf.0)

pub write_body_form-shape_of-out-in-3 : goal.write_body_form-shape_of-out-in-3
write_body_form-shape_of-out-in-3 t c = c.put_leaf-in-3.auto.out

pub write_body_form-returns-in-3 : goal.write_body_form-returns-in-3
write_body_form-returns-in-3 t c = let (n-bound, _) = c.requires in let context = c.args.function.now.context in
    let node-at-same = c.node_at-node.ensures.same in
    let put-leaf2 = c.put_leaf-in-3.ensures in
    numbered_as _ _ _ _ _ _ _ _ (field_body _ _ _ context _ n-bound _ node-at-same _ c.in-3.is) put-leaf2.1 (numbered_leaf _ _ _ _ _ _ _ _ put-leaf2.0)

pub write_body_form-shape_of-out-in-4 : goal.write_body_form-shape_of-out-in-4
write_body_form-shape_of-out-in-4 t c = c.put_above_one.auto.out ∙ c.write_body_form-key.auto.out

pub write_body_form-returns-in-4 : goal.write_body_form-returns-in-4
write_body_form-returns-in-4 t c = let (n-bound, (_, room)) = c.requires in let context = c.args.function.now.context in
    let node-at-same = c.node_at-node.ensures.same in
    let match-keys3 = c.in-4.is in
    let write-body-form-2 = c.write_body_form-key.ensures in
    let put-above-one = c.put_above_one.ensures in
    numbered_as _ _ _ _ _ _ _ _ (entry_body _ _ _ context _ n-bound _ node-at-same _ match-keys3) put-above-one.1 (numbered_one _ _ _ _ _ _ (room_as _ _ _ _ _ (entry_body _ _ _ context _ n-bound _ node-at-same _ match-keys3) room) _ _ _ write-body-form-2 put-above-one.0)

pub write_body_form-shape_of-out-in-5 : goal.write_body_form-shape_of-out-in-5
write_body_form-shape_of-out-in-5 t c = c.put_leaf-in-5.auto.out

pub write_body_form-returns-in-5 : goal.write_body_form-returns-in-5
write_body_form-returns-in-5 t c = let (n-bound, _) = c.requires in let context = c.args.function.now.context in
    let node-at-same = c.node_at-node.ensures.same in
    let put-leaf3 = c.put_leaf-in-5.ensures in
    numbered_as _ _ _ _ _ _ _ _ (parameter_body _ _ _ context _ n-bound _ node-at-same _ c.in-5.is) put-leaf3.1 (numbered_leaf _ _ _ _ _ _ _ _ put-leaf3.0)

pub write_body_form-shape_of-out-in-6 : goal.write_body_form-shape_of-out-in-6
write_body_form-shape_of-out-in-6 t c = c.write_body_operator.auto.out

pub write_body_form-returns-in-6 : goal.write_body_form-returns-in-6
write_body_form-returns-in-6 t c = c.write_body_operator.ensures

pub write_body_form-shape_of-out-in-7 : goal.write_body_form-shape_of-out-in-7
write_body_form-shape_of-out-in-7 t c = c.write_body_negation.auto.out

pub write_body_form-returns-in-7 : goal.write_body_form-returns-in-7
write_body_form-returns-in-7 t c = c.write_body_negation.ensures

pub write_body_form-shape_of-out-in-8 : goal.write_body_form-shape_of-out-in-8
write_body_form-shape_of-out-in-8 t c = c.put_leaf-in-8.auto.out

pub write_body_form-returns-in-8 : goal.write_body_form-returns-in-8
write_body_form-returns-in-8 t c = let (n-bound, _) = c.requires in let context = c.args.function.now.context in
    let node-at-same = c.node_at-node.ensures.same in
    let put-leaf4 = c.put_leaf-in-8.ensures in
    numbered_as _ _ _ _ _ _ _ _ (reveal_body _ _ _ context _ n-bound _ node-at-same _ c.in-8.is) put-leaf4.1 (numbered_leaf _ _ _ _ _ _ _ _ put-leaf4.0)

pub write_body_form-shape_of-out-in_default : goal.write_body_form-shape_of-out-in_default
write_body_form-shape_of-out-in_default t c = c.put_leaf-in_default.auto.out

pub write_body_form-returns-in_default : goal.write_body_form-returns-in_default
write_body_form-returns-in_default t c = let (n-bound, _) = c.requires in let context = c.args.function.now.context in
    let node-at-same = c.node_at-node.ensures.same in
    let put-leaf5 = c.put_leaf-in_default.ensures in numbered_as _ _ _ _ _ _ _ _ (other_body _ _ _ context _ n-bound _ node-at-same _ (record { constant = (search rules); field = (search rules); entry = (search rules); parameter = (search rules); operator = (search rules); negation = (search rules); reveal = (search rules) })) put-leaf5.1 (numbered_leaf _ _ _ _ _ _ _ _ put-leaf5.0)

pub write_body_negation-node_at-node-requires : goal.write_body_negation-node_at-node-requires
write_body_negation-node_at-node-requires t c = let context = c.args.function.now.context in (context.narrow, omega (arith, context.long))

pub write_body_negation-is_public-requires : goal.write_body_negation-is_public-requires
write_body_negation-is_public-requires t c = let (_, (n-bound, _)) = c.requires in n-bound

pub write_body_negation-write_body_form-part-requires : goal.write_body_negation-write_body_form-part-requires
write_body_negation-write_body_form-part-requires t c = let (kind-at-is, (n-bound, (i-bound, room))) = c.requires in
    let context = c.args.function.now.context in
    let node-at-same = c.node_at-node.ensures.same in let is_public_law = c.is_public.ensures in
    let if1-taken = c.if-is_public.true in
    let less = part_below (node_reads _ _ _ context _ n-bound _ node-at-same) (kind_as _ _ 7 (sym node-at-same) kind-at-is) in
    let count = negation_count _ _ _ context _ n-bound _ node-at-same _ is_public_law if1-taken (kind_as _ _ 7 (sym node-at-same) kind-at-is) in
    (omega arith, (omega arith, (omega (arith, i-bound), room_one _ _ _ _ _ _ (room_as _ _ _ _ _ (negation_body _ _ _ context _ n-bound _ node-at-same _ is_public_law if1-taken _ (kind_as _ _ 7 (sym node-at-same) kind-at-is)) room))))

pub write_body_negation-put_above_one-requires : goal.write_body_negation-put_above_one-requires
write_body_negation-put_above_one-requires t c = let (kind-at-is, (n-bound, (_, room))) = c.requires in
    let context = c.args.function.now.context in
    let node-at-same = c.node_at-node.ensures.same in
    let is_public_law = c.is_public.ensures in
    let if1-taken = c.if-is_public.true in
    room_above_one _ _ _ _ _ _ (room_as _ _ _ _ _ (negation_body _ _ _ context _ n-bound _ node-at-same _ is_public_law if1-taken _ (kind_as _ _ 7 (sym node-at-same) kind-at-is)) room) _ _ c.write_body_form-part.ensures

pub write_body_negation-put_leaf-requires : goal.write_body_negation-put_leaf-requires
write_body_negation-put_leaf-requires t c = let (_, (_, (_, room))) = c.requires in room_any _ _ _ _ room

pub write_body_negation-shape_of-out-then-is_public : goal.write_body_negation-shape_of-out-then-is_public
write_body_negation-shape_of-out-then-is_public t c = c.put_above_one.auto.out ∙ c.write_body_form-part.auto.out

pub write_body_negation-returns-then-is_public : goal.write_body_negation-returns-then-is_public
write_body_negation-returns-then-is_public t c = let (kind-at-is, (n-bound, (_, room))) = c.requires in
    let context = c.args.function.now.context in
    let node-at-same = c.node_at-node.ensures.same in
    let is_public_law = c.is_public.ensures in
    let if1-taken = c.if-is_public.true in
    let write-body-form-2 = c.write_body_form-part.ensures in
    let put-above-one = c.put_above_one.ensures in
    numbered_as _ _ _ _ _ _ _ _ (negation_body _ _ _ context _ n-bound _ node-at-same _ is_public_law if1-taken _ (kind_as _ _ 7 (sym node-at-same) kind-at-is)) put-above-one.1 (numbered_one _ _ _ _ _ _ (room_as _ _ _ _ _ (negation_body _ _ _ context _ n-bound _ node-at-same _ is_public_law if1-taken _ (kind_as _ _ 7 (sym node-at-same) kind-at-is)) room) _ _ _ write-body-form-2 put-above-one.0)

pub write_body_negation-shape_of-out-else-is_public : goal.write_body_negation-shape_of-out-else-is_public
write_body_negation-shape_of-out-else-is_public t c = c.put_leaf.auto.out

pub write_body_negation-returns-else-is_public : goal.write_body_negation-returns-else-is_public
write_body_negation-returns-else-is_public t c = let (kind-at-is, (n-bound, _)) = c.requires in let context = c.args.function.now.context in
    let node-at-same = c.node_at-node.ensures.same in
    let is_public_law = c.is_public.ensures in let put-leaf = c.put_leaf.ensures in
    numbered_as _ _ _ _ _ _ _ _ (supplied_negation_body _ _ _ context _ n-bound _ node-at-same _ is_public_law c.if-is_public.false _ (kind_as _ _ 7 (sym node-at-same) kind-at-is)) put-leaf.1 (numbered_leaf _ _ _ _ _ _ _ _ put-leaf.0)

pub write_body_operator-node_at-node-requires : goal.write_body_operator-node_at-node-requires
write_body_operator-node_at-node-requires t c = let context = c.args.function.now.context in (context.narrow, omega (arith, context.long))

pub write_body_operator-overflow_cast-arg : goal.write_body_operator-overflow_cast-arg
write_body_operator-overflow_cast-arg t c = omega (arith, c.node_at-node.ensures.small_arg)

pub write_body_operator-is_public-requires : goal.write_body_operator-is_public-requires
write_body_operator-is_public-requires t c = let (_, (n-bound, _)) = c.requires in n-bound

pub write_body_operator-body_count-requires : goal.write_body_operator-body_count-requires
write_body_operator-body_count-requires t c = let (kind-at-is, (n-bound, (i-bound, _))) = c.requires in
    let context = c.args.function.now.context in
    let node-at-same = c.node_at-node.ensures.same in
    let less = operands_below (node_reads _ _ _ context _ n-bound _ node-at-same) (kind_as _ _ 6 (sym node-at-same) kind-at-is) in
    let count = operator_count_law _ _ _ context _ n-bound _ node-at-same _ c.is_public.ensures c.if-is_public.true (kind_as _ _ 6 (sym node-at-same) kind-at-is) in
    (omega arith, omega (arith, i-bound))

pub write_body_operator-overflow_add-j : goal.write_body_operator-overflow_add-j
write_body_operator-overflow_add-j t c = let (kind-at-is, (n-bound, (i-bound, _))) = c.requires in
    let context = c.args.function.now.context in
    let node-at-same = c.node_at-node.ensures.same in
    let count = operator_count_law _ _ _ context _ n-bound _ node-at-same _ c.is_public.ensures c.if-is_public.true (kind_as _ _ 6 (sym node-at-same) kind-at-is) in
    omega (arith, i-bound, c.body_count.ensures)

pub write_body_operator-write_body_form-left-requires : goal.write_body_operator-write_body_form-left-requires
write_body_operator-write_body_form-left-requires t c = let (kind-at-is, (n-bound, (i-bound, room))) = c.requires in
    let context = c.args.function.now.context in
    let node-at-same = c.node_at-node.ensures.same in
    let is_public_law = c.is_public.ensures in let if1-taken = c.if-is_public.true in
    let less = operands_below (node_reads _ _ _ context _ n-bound _ node-at-same) (kind_as _ _ 6 (sym node-at-same) kind-at-is) in
    let count = operator_count_law _ _ _ context _ n-bound _ node-at-same _ is_public_law if1-taken (kind_as _ _ 6 (sym node-at-same) kind-at-is) in
    (omega arith, (omega arith, (omega (arith, i-bound), room_left _ _ _ _ _ _ _ (room_as _ _ _ _ _ (operator_body _ _ _ context _ n-bound _ node-at-same _ is_public_law if1-taken _ (kind_as _ _ 6 (sym node-at-same) kind-at-is) _ c.body_count.ensures) room))))

pub write_body_operator-overflow_mul-a : goal.write_body_operator-overflow_mul-a
write_body_operator-overflow_mul-a t c = let (kind-at-is, (n-bound, (_, room))) = c.requires in let context = c.args.function.now.context in
    let node-at-same = c.node_at-node.ensures.same in
    let is_public_law = c.is_public.ensures in
    let if1-taken = c.if-is_public.true in
    let right = room_right _ _ _ _ _ _ _ (room_as _ _ _ _ _ (operator_body _ _ _ context _ n-bound _ node-at-same _ is_public_law if1-taken _ (kind_as _ _ 6 (sym node-at-same) kind-at-is) _ c.body_count.ensures) room) _ _ c.write_body_form-left.ensures in
    omega (arith, right.numbers)

pub write_body_operator-overflow_add-a : goal.write_body_operator-overflow_add-a
write_body_operator-overflow_add-a t c = let (kind-at-is, (n-bound, (_, room))) = c.requires in let context = c.args.function.now.context in
    let node-at-same = c.node_at-node.ensures.same in
    let is_public_law = c.is_public.ensures in
    let if1-taken = c.if-is_public.true in
    let right = room_right _ _ _ _ _ _ _ (room_as _ _ _ _ _ (operator_body _ _ _ context _ n-bound _ node-at-same _ is_public_law if1-taken _ (kind_as _ _ 6 (sym node-at-same) kind-at-is) _ c.body_count.ensures) room) _ _ c.write_body_form-left.ensures in
    omega (arith, right.bytes)

pub write_body_operator-overflow_add-b : goal.write_body_operator-overflow_add-b
write_body_operator-overflow_add-b t c = let (kind-at-is, (n-bound, (_, room))) = c.requires in let context = c.args.function.now.context in
    let node-at-same = c.node_at-node.ensures.same in
    let is_public_law = c.is_public.ensures in
    let if1-taken = c.if-is_public.true in
    let right = room_right _ _ _ _ _ _ _ (room_as _ _ _ _ _ (operator_body _ _ _ context _ n-bound _ node-at-same _ is_public_law if1-taken _ (kind_as _ _ 6 (sym node-at-same) kind-at-is) _ c.body_count.ensures) room) _ _ c.write_body_form-left.ensures in
    omega (arith, right.numbers)

pub write_body_operator-write_body_form-right-requires : goal.write_body_operator-write_body_form-right-requires
write_body_operator-write_body_form-right-requires t c = let (kind-at-is, (n-bound, (i-bound, room))) = c.requires in
    let context = c.args.function.now.context in
    let node-at-same = c.node_at-node.ensures.same in
    let is_public_law = c.is_public.ensures in
    let if1-taken = c.if-is_public.true in
    let body_count_law = c.body_count.ensures in
    let less = operands_below (node_reads _ _ _ context _ n-bound _ node-at-same) (kind_as _ _ 6 (sym node-at-same) kind-at-is) in
    let count = operator_count_law _ _ _ context _ n-bound _ node-at-same _ is_public_law if1-taken (kind_as _ _ 6 (sym node-at-same) kind-at-is) in
    (omega arith, (omega arith, (omega (arith, i-bound, body_count_law), room_right _ _ _ _ _ _ _ (room_as _ _ _ _ _ (operator_body _ _ _ context _ n-bound _ node-at-same _ is_public_law if1-taken _ (kind_as _ _ 6 (sym node-at-same) kind-at-is) _ body_count_law) room) _ _ c.write_body_form-left.ensures)))

pub write_body_operator-put_above_two-requires : goal.write_body_operator-put_above_two-requires
write_body_operator-put_above_two-requires t c = let (kind-at-is, (n-bound, (_, room))) = c.requires in
    let context = c.args.function.now.context in
    let node-at-same = c.node_at-node.ensures.same in
    let is_public_law = c.is_public.ensures in
    let if1-taken = c.if-is_public.true in
    let body_count_law = c.body_count.ensures in
    let write-body-form-2 = c.write_body_form-left.ensures in
    room_above_two _ _ _ _ _ _ _ (room_as _ _ _ _ _ (operator_body _ _ _ context _ n-bound _ node-at-same _ is_public_law if1-taken _ (kind_as _ _ 6 (sym node-at-same) kind-at-is) _ body_count_law) room) _ _ write-body-form-2 _ _ c.write_body_form-right.ensures

pub write_body_operator-put_leaf-requires : goal.write_body_operator-put_leaf-requires
write_body_operator-put_leaf-requires t c = let (_, (_, (_, room))) = c.requires in room_any _ _ _ _ room

pub write_body_operator-shape_of-out-then-is_public : goal.write_body_operator-shape_of-out-then-is_public
write_body_operator-shape_of-out-then-is_public t c = let write-body-form-kept = c.write_body_form-left.auto.out in
    let write-body-form2-kept = c.write_body_form-right.auto.out in
    c.put_above_two.auto.out ∙ write-body-form2-kept ∙ write-body-form-kept

pub write_body_operator-returns-then-is_public : goal.write_body_operator-returns-then-is_public
write_body_operator-returns-then-is_public t c = let (kind-at-is, (n-bound, (_, room))) = c.requires in
    let context = c.args.function.now.context in
    let node-at-same = c.node_at-node.ensures.same in
    let is_public_law = c.is_public.ensures in
    let if1-taken = c.if-is_public.true in
    let body_count_law = c.body_count.ensures in
    let write-body-form-2 = c.write_body_form-left.ensures in
    let write-body-form2 = c.write_body_form-right.ensures in
    let put-above-two = c.put_above_two.ensures in
    numbered_as _ _ _ _ _ _ _ _ (operator_body _ _ _ context _ n-bound _ node-at-same _ is_public_law if1-taken _ (kind_as _ _ 6 (sym node-at-same) kind-at-is) _ body_count_law) put-above-two.1 (numbered_two _ _ _ _ _ _ _ (room_as _ _ _ _ _ (operator_body _ _ _ context _ n-bound _ node-at-same _ is_public_law if1-taken _ (kind_as _ _ 6 (sym node-at-same) kind-at-is) _ body_count_law) room) _ _ write-body-form-2 _ _ write-body-form2 _ put-above-two.0)

pub write_body_operator-shape_of-out-else-is_public : goal.write_body_operator-shape_of-out-else-is_public
write_body_operator-shape_of-out-else-is_public t c = c.put_leaf.auto.out

pub write_body_operator-returns-else-is_public : goal.write_body_operator-returns-else-is_public
write_body_operator-returns-else-is_public t c = let (kind-at-is, (n-bound, _)) = c.requires in let context = c.args.function.now.context in
    let node-at-same = c.node_at-node.ensures.same in
    let is_public_law = c.is_public.ensures in let put-leaf = c.put_leaf.ensures in
    numbered_as _ _ _ _ _ _ _ _ (supplied_operator_body _ _ _ context _ n-bound _ node-at-same _ is_public_law c.if-is_public.false _ (kind_as _ _ 6 (sym node-at-same) kind-at-is)) put-leaf.1 (numbered_leaf _ _ _ _ _ _ _ _ put-leaf.0)
