use Rattle.kit.specs.Names.{refl, sym, ◌∙◌, arith, rules}
use Rattle.theory_laws.proofs.Records.{kind_as}
use Rattle.theory_trees.proofs.ByKind.{key_below, part_below, revealed_below, operands_below, Unlisted}
use Rattle.file_accepted.proofs.Nodes.{node_reads}
use Rattle.write_nodes.proofs.TreeNodes.{room_as, room_any, room_one, room_left, room_right, room_above_one, room_above_two, numbered_as, numbered_one, numbered_two}
use Rattle.write_circuit_expressions.proofs.CircuitNodes.{constant_circuit, field_circuit, entry_circuit, parameter_circuit, division_circuit, operator_circuit, negation_circuit, reveal_circuit, other_circuit, constant_variables, field_variables, parameter_variables, other_variables, entry_variables, division_variables, operator_variables, negation_variables, reveal_variables}
use Rattle.write_circuit_expressions.proofs.+write_circuit_form_write_circuit_operator.Goals as goal

pub write_circuit_form-node_at-node-requires : goal.write_circuit_form-node_at-node-requires
write_circuit_form-node_at-node-requires t c = let context = c.args.function.now.context in (context.narrow, omega (arith, context.long))

pub write_circuit_form-overflow_cast-arg : goal.write_circuit_form-overflow_cast-arg
write_circuit_form-overflow_cast-arg t c = omega (arith, c.node_at-node.ensures.small_arg)

pub write_circuit_form-put_plain-requires : goal.write_circuit_form-put_plain-requires
write_circuit_form-put_plain-requires t c = let (_, (_, room)) = c.requires in room_any _ _ _ _ room

pub write_circuit_form-is_public-requires : goal.write_circuit_form-is_public-requires
write_circuit_form-is_public-requires t c = let (n-bound, _) = c.requires in n-bound

pub write_circuit_form-put_variable-requires : goal.write_circuit_form-put_variable-requires
write_circuit_form-put_variable-requires t c = let (n-bound, (i-bound, room)) = c.requires in let context = c.args.function.now.context in
    let count = field_variables _ _ _ context _ n-bound _ c.node_at-node.ensures.same c.in-3.is in
    (omega (arith, i-bound), room_any _ _ _ _ room)

pub write_circuit_form-body_count-requires : goal.write_circuit_form-body_count-requires
write_circuit_form-body_count-requires t c = let (n-bound, (i-bound, _)) = c.requires in let context = c.args.function.now.context in
    let node-at-same = c.node_at-node.ensures.same in
    let less = key_below (node_reads _ _ _ context _ n-bound _ node-at-same) c.in-4.is in
    let count = entry_variables _ _ _ context _ n-bound _ node-at-same c.in-4.is in
    (omega arith, omega (arith, i-bound))

pub write_circuit_form-overflow_add-j : goal.write_circuit_form-overflow_add-j
write_circuit_form-overflow_add-j t c = let (n-bound, (i-bound, _)) = c.requires in let context = c.args.function.now.context in
    let count = entry_variables _ _ _ context _ n-bound _ c.node_at-node.ensures.same c.in-4.is in
    omega (arith, i-bound, c.body_count.ensures)

pub write_circuit_form-is_public-requires-in-4 : goal.write_circuit_form-is_public-requires-in-4
write_circuit_form-is_public-requires-in-4 t c = let (n-bound, _) = c.requires in n-bound

pub write_circuit_form-put_variable-requires-in-4 : goal.write_circuit_form-put_variable-requires-in-4
write_circuit_form-put_variable-requires-in-4 t c = let (n-bound, (i-bound, room)) = c.requires in
    let context = c.args.function.now.context in
    let count = entry_variables _ _ _ context _ n-bound _ c.node_at-node.ensures.same c.in-4.is in
    (omega (arith, i-bound, c.body_count.ensures), room_any _ _ _ _ room)

pub write_circuit_form-is_public-requires-in-5 : goal.write_circuit_form-is_public-requires-in-5
write_circuit_form-is_public-requires-in-5 t c = let (n-bound, _) = c.requires in n-bound

pub write_circuit_form-put_variable-requires-in-5 : goal.write_circuit_form-put_variable-requires-in-5
write_circuit_form-put_variable-requires-in-5 t c = let (n-bound, (i-bound, room)) = c.requires in
    let context = c.args.function.now.context in
    let count = parameter_variables _ _ _ context _ n-bound _ c.node_at-node.ensures.same c.in-5.is in
    (omega (arith, i-bound), room_any _ _ _ _ room)

pub write_circuit_form-write_circuit_operator-requires : goal.write_circuit_form-write_circuit_operator-requires
write_circuit_form-write_circuit_operator-requires t c = let (n-bound, (i-bound, room)) = c.requires in
    (omega arith, (kind_as _ _ 6 c.node_at-node.ensures.same c.in-6.is, (n-bound, (i-bound, room))))

pub write_circuit_form-write_circuit_form-part-requires : goal.write_circuit_form-write_circuit_form-part-requires
write_circuit_form-write_circuit_form-part-requires t c = let (n-bound, (i-bound, room)) = c.requires in
    let context = c.args.function.now.context in
    let node-at-same = c.node_at-node.ensures.same in let match-keys6 = c.in-7.is in
    let less = part_below (node_reads _ _ _ context _ n-bound _ node-at-same) match-keys6 in
    let count = negation_variables _ _ _ context _ n-bound _ node-at-same match-keys6 in
    (omega arith, (omega arith, (omega (arith, i-bound), room_one _ _ _ _ _ _ (room_as _ _ _ _ _ (negation_circuit _ _ _ context _ n-bound _ node-at-same _ match-keys6) room))))

pub write_circuit_form-put_above_one-nodes-requires : goal.write_circuit_form-put_above_one-nodes-requires
write_circuit_form-put_above_one-nodes-requires t c = let (n-bound, (_, room)) = c.requires in let context = c.args.function.now.context in
    let node-at-same = c.node_at-node.ensures.same in
    let match-keys6 = c.in-7.is in
    room_above_one _ _ _ _ _ _ (room_as _ _ _ _ _ (negation_circuit _ _ _ context _ n-bound _ node-at-same _ match-keys6) room) _ _ c.write_circuit_form-part.ensures.form

pub write_circuit_form-write_circuit_form-requires : goal.write_circuit_form-write_circuit_form-requires
write_circuit_form-write_circuit_form-requires t c = let (n-bound, (i-bound, room)) = c.requires in
    let context = c.args.function.now.context in
    let node-at-same = c.node_at-node.ensures.same in let match-keys7 = c.in-8.is in
    let less = revealed_below (node_reads _ _ _ context _ n-bound _ node-at-same) match-keys7 in
    let count = reveal_variables _ _ _ context _ n-bound _ node-at-same match-keys7 in
    (omega arith, (omega arith, (omega (arith, i-bound), room_as _ _ _ _ _ (reveal_circuit _ _ _ context _ n-bound _ node-at-same _ match-keys7) room)))

pub write_circuit_form-put_plain-requires-in_default : goal.write_circuit_form-put_plain-requires-in_default
write_circuit_form-put_plain-requires-in_default t c = let (_, (_, room)) = c.requires in room_any _ _ _ _ room

pub write_circuit_form-shape_of-out-in-1 : goal.write_circuit_form-shape_of-out-in-1
write_circuit_form-shape_of-out-in-1 t c = c.put_plain.auto.out

pub write_circuit_form-returns-in-1 : goal.write_circuit_form-returns-in-1
write_circuit_form-returns-in-1 t c = let (n-bound, _) = c.requires in let context = c.args.function.now.context in
    let node_at_law = c.node_at-node.ensures in let match-keys1 = c.in-1.is in let put_plain = c.put_plain.ensures in
    let count = constant_variables _ _ _ context _ n-bound _ node_at_law.same match-keys1 in
    record { form = numbered_as _ _ _ _ _ _ _ _ (constant_circuit _ _ _ context _ n-bound _ node_at_law.same _ match-keys1 node_at_law.small_first) refl (put_plain.0 _); next = omega (arith, put_plain.1) }

pub write_circuit_form-shape_of-out-in-3 : goal.write_circuit_form-shape_of-out-in-3
write_circuit_form-shape_of-out-in-3 t c = c.put_variable.auto.out

pub write_circuit_form-returns-in-3 : goal.write_circuit_form-returns-in-3
write_circuit_form-returns-in-3 t c = let (n-bound, _) = c.requires in let context = c.args.function.now.context in
    let node-at-same = c.node_at-node.ensures.same in
    let match-keys2 = c.in-3.is in let put-variable = c.put_variable.ensures in
    let count = field_variables _ _ _ context _ n-bound _ node-at-same match-keys2 in
    record { form = numbered_as _ _ _ _ _ _ _ _ (field_circuit _ _ _ context _ n-bound _ node-at-same _ c.is_public.ensures _ match-keys2) refl (put-variable.0 _); next = omega (arith, put-variable.1) }

pub write_circuit_form-shape_of-out-in-4 : goal.write_circuit_form-shape_of-out-in-4
write_circuit_form-shape_of-out-in-4 t c = c.put_variable-in-4.auto.out

pub write_circuit_form-returns-in-4 : goal.write_circuit_form-returns-in-4
write_circuit_form-returns-in-4 t c = let (n-bound, _) = c.requires in let context = c.args.function.now.context in
    let node-at-same = c.node_at-node.ensures.same in
    let match-keys3 = c.in-4.is in
    let body_count_law = c.body_count.ensures in let put-variable = c.put_variable-in-4.ensures in
    let count = entry_variables _ _ _ context _ n-bound _ node-at-same match-keys3 in
    record { form = numbered_as _ _ _ _ _ _ _ _ (entry_circuit _ _ _ context _ n-bound _ node-at-same _ c.is_public-in-4.ensures _ match-keys3 _ body_count_law) refl (put-variable.0 _); next = omega (arith, put-variable.1, body_count_law) }

pub write_circuit_form-shape_of-out-in-5 : goal.write_circuit_form-shape_of-out-in-5
write_circuit_form-shape_of-out-in-5 t c = c.put_variable-in-5.auto.out

pub write_circuit_form-returns-in-5 : goal.write_circuit_form-returns-in-5
write_circuit_form-returns-in-5 t c = let (n-bound, _) = c.requires in let context = c.args.function.now.context in
    let node-at-same = c.node_at-node.ensures.same in
    let match-keys4 = c.in-5.is in let put-variable = c.put_variable-in-5.ensures in
    let count = parameter_variables _ _ _ context _ n-bound _ node-at-same match-keys4 in
    record { form = numbered_as _ _ _ _ _ _ _ _ (parameter_circuit _ _ _ context _ n-bound _ node-at-same _ c.is_public-in-5.ensures _ match-keys4) refl (put-variable.0 _); next = omega (arith, put-variable.1) }

pub write_circuit_form-shape_of-out-in-6 : goal.write_circuit_form-shape_of-out-in-6
write_circuit_form-shape_of-out-in-6 t c = c.write_circuit_operator.auto.out

pub write_circuit_form-returns-in-6 : goal.write_circuit_form-returns-in-6
write_circuit_form-returns-in-6 t c = c.write_circuit_operator.ensures

pub write_circuit_form-shape_of-out-in-7 : goal.write_circuit_form-shape_of-out-in-7
write_circuit_form-shape_of-out-in-7 t c = c.put_above_one-nodes.auto.out ∙ c.write_circuit_form-part.auto.out

pub write_circuit_form-returns-in-7 : goal.write_circuit_form-returns-in-7
write_circuit_form-returns-in-7 t c = let (n-bound, (_, room)) = c.requires in let context = c.args.function.now.context in
    let node-at-same = c.node_at-node.ensures.same in
    let match-keys6 = c.in-7.is in
    let part = c.write_circuit_form-part.ensures in
    let put-above-one = c.put_above_one-nodes.ensures in
    let count = negation_variables _ _ _ context _ n-bound _ node-at-same match-keys6 in record {
      form = numbered_as _ _ _ _ _ _ _ _ (negation_circuit _ _ _ context _ n-bound _ node-at-same _ match-keys6) put-above-one.1 (numbered_one _ _ _ _ _ _ (room_as _ _ _ _ _ (negation_circuit _ _ _ context _ n-bound _ node-at-same _ match-keys6) room) _ _ _ part.form put-above-one.0);
      next = omega (arith, part.next);
    }

pub write_circuit_form-shape_of-out-in-8 : goal.write_circuit_form-shape_of-out-in-8
write_circuit_form-shape_of-out-in-8 t c = c.write_circuit_form.auto.out

pub write_circuit_form-returns-in-8 : goal.write_circuit_form-returns-in-8
write_circuit_form-returns-in-8 t c = let (n-bound, _) = c.requires in let context = c.args.function.now.context in
    let node-at-same = c.node_at-node.ensures.same in
    let match-keys7 = c.in-8.is in let part = c.write_circuit_form.ensures in
    let count = reveal_variables _ _ _ context _ n-bound _ node-at-same match-keys7 in
    record { form = numbered_as _ _ _ _ _ _ _ _ (reveal_circuit _ _ _ context _ n-bound _ node-at-same _ match-keys7) refl part.form; next = omega (arith, part.next) }

pub write_circuit_form-shape_of-out-in_default : goal.write_circuit_form-shape_of-out-in_default
write_circuit_form-shape_of-out-in_default t c = c.put_plain-in_default.auto.out

pub write_circuit_form-returns-in_default : goal.write_circuit_form-returns-in_default
write_circuit_form-returns-in_default t c = let (n-bound, _) = c.requires in let context = c.args.function.now.context in
    let node-at-same = c.node_at-node.ensures.same in
    let put_plain = c.put_plain-in_default.ensures in let unlisted : Unlisted _ = record { constant = (search rules); field = (search rules); entry = (search rules); parameter = (search rules); operator = (search rules); negation = (search rules); reveal = (search rules) } in
    let count = other_variables _ _ _ context _ n-bound _ node-at-same unlisted in
    record { form = numbered_as _ _ _ _ _ _ _ _ (other_circuit _ _ _ context _ n-bound _ node-at-same _ unlisted) refl (put_plain.0 _); next = omega (arith, put_plain.1) }

pub write_circuit_operator-node_at-node-requires : goal.write_circuit_operator-node_at-node-requires
write_circuit_operator-node_at-node-requires t c = let context = c.args.function.now.context in
    (context.narrow, omega (arith, context.long))

pub write_circuit_operator-overflow_cast-arg : goal.write_circuit_operator-overflow_cast-arg
write_circuit_operator-overflow_cast-arg t c = omega (arith, c.node_at-node.ensures.small_arg)

pub write_circuit_operator-is_public_division-requires : goal.write_circuit_operator-is_public_division-requires
write_circuit_operator-is_public_division-requires t c = let (_, (n-bound, _)) = c.requires in n-bound

pub write_circuit_operator-body_count-requires : goal.write_circuit_operator-body_count-requires
write_circuit_operator-body_count-requires t c = let (kind-at-is, (n-bound, (i-bound, _))) = c.requires in
    let context = c.args.function.now.context in
    let node-at-same = c.node_at-node.ensures.same in
    let less = operands_below (node_reads _ _ _ context _ n-bound _ node-at-same) (kind_as _ _ 6 (sym node-at-same) kind-at-is) in
    let count = division_variables _ _ _ context _ n-bound _ node-at-same _ c.is_public_division.ensures c.if-is_public_division.true (kind_as _ _ 6 (sym node-at-same) kind-at-is) in
    (omega arith, omega (arith, i-bound))

pub write_circuit_operator-overflow_add-j : goal.write_circuit_operator-overflow_add-j
write_circuit_operator-overflow_add-j t c = let (kind-at-is, (n-bound, (i-bound, _))) = c.requires in
    let context = c.args.function.now.context in
    let node-at-same = c.node_at-node.ensures.same in
    let count = division_variables _ _ _ context _ n-bound _ node-at-same _ c.is_public_division.ensures c.if-is_public_division.true (kind_as _ _ 6 (sym node-at-same) kind-at-is) in
    omega (arith, i-bound, c.body_count.ensures)

pub write_circuit_operator-body_count-requires-then-is_public_division : goal.write_circuit_operator-body_count-requires-then-is_public_division
write_circuit_operator-body_count-requires-then-is_public_division t c = let (kind-at-is, (n-bound, (i-bound, _))) = c.requires in
    let context = c.args.function.now.context in
    let node-at-same = c.node_at-node.ensures.same in
    let less = operands_below (node_reads _ _ _ context _ n-bound _ node-at-same) (kind_as _ _ 6 (sym node-at-same) kind-at-is) in
    let count = division_variables _ _ _ context _ n-bound _ node-at-same _ c.is_public_division.ensures c.if-is_public_division.true (kind_as _ _ 6 (sym node-at-same) kind-at-is) in
    (omega arith, omega (arith, i-bound))

pub write_circuit_operator-overflow_add-k : goal.write_circuit_operator-overflow_add-k
write_circuit_operator-overflow_add-k t c = let (kind-at-is, (n-bound, (i-bound, _))) = c.requires in
    let context = c.args.function.now.context in
    let node-at-same = c.node_at-node.ensures.same in
    let count = division_variables _ _ _ context _ n-bound _ node-at-same _ c.is_public_division.ensures c.if-is_public_division.true (kind_as _ _ 6 (sym node-at-same) kind-at-is) in
    omega (arith, i-bound, c.body_count.ensures, c.body_count-then-is_public_division.ensures)

pub write_circuit_operator-put_variable-requires : goal.write_circuit_operator-put_variable-requires
write_circuit_operator-put_variable-requires t c = let (kind-at-is, (n-bound, (i-bound, room))) = c.requires in
    let context = c.args.function.now.context in
    let node-at-same = c.node_at-node.ensures.same in
    let count = division_variables _ _ _ context _ n-bound _ node-at-same _ c.is_public_division.ensures c.if-is_public_division.true (kind_as _ _ 6 (sym node-at-same) kind-at-is) in
    (omega (arith, i-bound, c.body_count.ensures, c.body_count-then-is_public_division.ensures), room_any _ _ _ _ room)

pub write_circuit_operator-write_circuit_form-left-requires : goal.write_circuit_operator-write_circuit_form-left-requires
write_circuit_operator-write_circuit_form-left-requires t c = let (kind-at-is, (n-bound, (i-bound, room))) = c.requires in
    let context = c.args.function.now.context in
    let node-at-same = c.node_at-node.ensures.same in
    let is-public-division = c.is_public_division.ensures in let if1-left = c.if-is_public_division.false in
    let less = operands_below (node_reads _ _ _ context _ n-bound _ node-at-same) (kind_as _ _ 6 (sym node-at-same) kind-at-is) in
    let count = operator_variables _ _ _ context _ n-bound _ node-at-same _ is-public-division if1-left (kind_as _ _ 6 (sym node-at-same) kind-at-is) in
    (omega arith, (omega arith, (omega (arith, i-bound), room_left _ _ _ _ _ _ _ (room_as _ _ _ _ _ (operator_circuit _ _ _ context _ n-bound _ node-at-same _ is-public-division if1-left _ (kind_as _ _ 6 (sym node-at-same) kind-at-is) _ refl) room))))

pub write_circuit_operator-overflow_mul-a : goal.write_circuit_operator-overflow_mul-a
write_circuit_operator-overflow_mul-a t c = let (kind-at-is, (n-bound, (_, room))) = c.requires in
    let context = c.args.function.now.context in
    let node-at-same = c.node_at-node.ensures.same in
    let is-public-division = c.is_public_division.ensures in
    let if1-left = c.if-is_public_division.false in
    let right = room_right _ _ _ _ _ _ _ (room_as _ _ _ _ _ (operator_circuit _ _ _ context _ n-bound _ node-at-same _ is-public-division if1-left _ (kind_as _ _ 6 (sym node-at-same) kind-at-is) _ refl) room) _ _ c.write_circuit_form-left.ensures.form in
    omega (arith, right.numbers)

pub write_circuit_operator-overflow_add-a : goal.write_circuit_operator-overflow_add-a
write_circuit_operator-overflow_add-a t c = let (kind-at-is, (n-bound, (_, room))) = c.requires in
    let context = c.args.function.now.context in
    let node-at-same = c.node_at-node.ensures.same in
    let is-public-division = c.is_public_division.ensures in
    let if1-left = c.if-is_public_division.false in
    let right = room_right _ _ _ _ _ _ _ (room_as _ _ _ _ _ (operator_circuit _ _ _ context _ n-bound _ node-at-same _ is-public-division if1-left _ (kind_as _ _ 6 (sym node-at-same) kind-at-is) _ refl) room) _ _ c.write_circuit_form-left.ensures.form in
    omega (arith, right.bytes)

pub write_circuit_operator-overflow_add-b : goal.write_circuit_operator-overflow_add-b
write_circuit_operator-overflow_add-b t c = let (kind-at-is, (n-bound, (_, room))) = c.requires in
    let context = c.args.function.now.context in
    let node-at-same = c.node_at-node.ensures.same in
    let is-public-division = c.is_public_division.ensures in
    let if1-left = c.if-is_public_division.false in
    let right = room_right _ _ _ _ _ _ _ (room_as _ _ _ _ _ (operator_circuit _ _ _ context _ n-bound _ node-at-same _ is-public-division if1-left _ (kind_as _ _ 6 (sym node-at-same) kind-at-is) _ refl) room) _ _ c.write_circuit_form-left.ensures.form in
    omega (arith, right.numbers)

pub write_circuit_operator-write_circuit_form-right-requires : goal.write_circuit_operator-write_circuit_form-right-requires
write_circuit_operator-write_circuit_form-right-requires t c = let (kind-at-is, (n-bound, (i-bound, room))) = c.requires in
    let context = c.args.function.now.context in
    let node-at-same = c.node_at-node.ensures.same in
    let is-public-division = c.is_public_division.ensures in
    let if1-left = c.if-is_public_division.false in
    let left = c.write_circuit_form-left.ensures in
    let less = operands_below (node_reads _ _ _ context _ n-bound _ node-at-same) (kind_as _ _ 6 (sym node-at-same) kind-at-is) in
    let count = operator_variables _ _ _ context _ n-bound _ node-at-same _ is-public-division if1-left (kind_as _ _ 6 (sym node-at-same) kind-at-is) in
    (omega arith, (omega arith, (omega (arith, i-bound, left.next), room_right _ _ _ _ _ _ _ (room_as _ _ _ _ _ (operator_circuit _ _ _ context _ n-bound _ node-at-same _ is-public-division if1-left _ (kind_as _ _ 6 (sym node-at-same) kind-at-is) _ left.next) room) _ _ left.form)))

pub write_circuit_operator-put_above_two-nodes-requires : goal.write_circuit_operator-put_above_two-nodes-requires
write_circuit_operator-put_above_two-nodes-requires t c = let (kind-at-is, (n-bound, (_, room))) = c.requires in
    let context = c.args.function.now.context in
    let node-at-same = c.node_at-node.ensures.same in
    let is-public-division = c.is_public_division.ensures in
    let if1-left = c.if-is_public_division.false in
    let left = c.write_circuit_form-left.ensures in
    room_above_two _ _ _ _ _ _ _ (room_as _ _ _ _ _ (operator_circuit _ _ _ context _ n-bound _ node-at-same _ is-public-division if1-left _ (kind_as _ _ 6 (sym node-at-same) kind-at-is) _ left.next) room) _ _ left.form _ _ c.write_circuit_form-right.ensures.form

pub write_circuit_operator-shape_of-out-then-is_public_division : goal.write_circuit_operator-shape_of-out-then-is_public_division
write_circuit_operator-shape_of-out-then-is_public_division t c = c.put_variable.auto.out

pub write_circuit_operator-returns-then-is_public_division : goal.write_circuit_operator-returns-then-is_public_division
write_circuit_operator-returns-then-is_public_division t c = let (kind-at-is, (n-bound, _)) = c.requires in
    let context = c.args.function.now.context in
    let node-at-same = c.node_at-node.ensures.same in
    let is-public-division = c.is_public_division.ensures in
    let if1-taken = c.if-is_public_division.true in
    let body_count_law = c.body_count.ensures in let body-count2 = c.body_count-then-is_public_division.ensures in let put-variable = c.put_variable.ensures in
    let count = division_variables _ _ _ context _ n-bound _ node-at-same _ is-public-division if1-taken (kind_as _ _ 6 (sym node-at-same) kind-at-is) in
    record {
      form = numbered_as _ _ _ _ _ _ _ _ (division_circuit _ _ _ context _ n-bound _ node-at-same _ is-public-division if1-taken _ (kind_as _ _ 6 (sym node-at-same) kind-at-is) _ _ body_count_law body-count2) refl (put-variable.0 _);
      next = omega (arith, put-variable.1, body_count_law, body-count2);
    }

pub write_circuit_operator-shape_of-out-else-is_public_division : goal.write_circuit_operator-shape_of-out-else-is_public_division
write_circuit_operator-shape_of-out-else-is_public_division t c = let write-circuit-form-kept = c.write_circuit_form-left.auto.out in
    let write-circuit-form2-kept = c.write_circuit_form-right.auto.out in
    c.put_above_two-nodes.auto.out ∙ write-circuit-form2-kept ∙ write-circuit-form-kept

pub write_circuit_operator-returns-else-is_public_division : goal.write_circuit_operator-returns-else-is_public_division
write_circuit_operator-returns-else-is_public_division t c = let (kind-at-is, (n-bound, (_, room))) = c.requires in
    let context = c.args.function.now.context in
    let node-at-same = c.node_at-node.ensures.same in
    let is-public-division = c.is_public_division.ensures in
    let if1-left = c.if-is_public_division.false in
    let left = c.write_circuit_form-left.ensures in
    let right = c.write_circuit_form-right.ensures in
    let put-above-two = c.put_above_two-nodes.ensures in
    let count = operator_variables _ _ _ context _ n-bound _ node-at-same _ is-public-division if1-left (kind_as _ _ 6 (sym node-at-same) kind-at-is) in
    let tree = operator_circuit _ _ _ context _ n-bound _ node-at-same _ is-public-division if1-left _ (kind_as _ _ 6 (sym node-at-same) kind-at-is) _ left.next in
    record {
      form = numbered_as _ _ _ _ _ _ _ _ tree put-above-two.1 (numbered_two _ _ _ _ _ _ _ (room_as _ _ _ _ _ tree room) _ _ left.form _ _ right.form _ put-above-two.0);
      next = omega (arith, left.next, right.next);
    }
