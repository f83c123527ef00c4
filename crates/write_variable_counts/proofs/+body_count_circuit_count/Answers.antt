use Rattle.kit.specs.Names.{sym, ◌∙◌, arith, rules}
use Rattle.file_accepted.specs.Context.{scope_in}
use Rattle.theory_trees.proofs.ByKind.{constant_is, field_is, entry_is, parameter_is, operator_is, negation_is, reveal_is, other_is, key_below, part_below, revealed_below, operands_below}
use Rattle.file_accepted.proofs.Nodes.{node_reads}
use Rattle.write_variable_counts.proofs.Steps.{body_constant, body_me, body_field, body_parameter, body_entry, body_operator, body_supplied_operator, body_negation, body_supplied_negation, body_reveal, circuit_constant, circuit_me, circuit_field, circuit_parameter, circuit_entry, circuit_division, circuit_operator, circuit_negation, circuit_reveal}
use Rattle.write_variable_counts.proofs.+body_count_circuit_count.Goals as goal

pub body_count-node_at-node-requires : goal.body_count-node_at-node-requires
body_count-node_at-node-requires t c = let context = c.args.function.now.context in (context.narrow, omega (arith, context.long))

pub body_count-body_count-requires : goal.body_count-body_count-requires
body_count-body_count-requires t c = let args = c.args in let (n-bound, _) = c.requires in let context = c.args.function.now.context in
    let node-at-same = c.node_at-node.ensures.same in
    let less = key_below (node_reads _ _ _ context _ n-bound _ node-at-same) c.in-4.is in
    let h = body_entry (scope_in args.function.now.file.now args.function.now.at) _ _ _ (entry_is (node_reads _ _ _ context _ n-bound _ node-at-same) c.in-4.is) in
    (omega arith, (omega arith, omega arith))

pub body_count-is_public-requires : goal.body_count-is_public-requires
body_count-is_public-requires t c = let (n-bound, _) = c.requires in n-bound

pub body_count-body_count-left-requires : goal.body_count-body_count-left-requires
body_count-body_count-left-requires t c = let args = c.args in let (n-bound, _) = c.requires in let context = c.args.function.now.context in
    let node-at-same = c.node_at-node.ensures.same in let match-keys5 = c.in-6.is in
    let less = operands_below (node_reads _ _ _ context _ n-bound _ node-at-same) match-keys5 in
    let h = body_operator (scope_in args.function.now.file.now args.function.now.at) _ _ _ _ (operator_is (node_reads _ _ _ context _ n-bound _ node-at-same) match-keys5) (sym c.is_public.ensures ∙ c.if-is_public.true) in
    (omega arith, (omega arith, omega arith))

pub body_count-body_count-right-requires : goal.body_count-body_count-right-requires
body_count-body_count-right-requires t c = let args = c.args in let (n-bound, _) = c.requires in
    let context = c.args.function.now.context in
    let node-at-same = c.node_at-node.ensures.same in let match-keys5 = c.in-6.is in
    let less = operands_below (node_reads _ _ _ context _ n-bound _ node-at-same) match-keys5 in
    let h = body_operator (scope_in args.function.now.file.now args.function.now.at) _ _ _ _ (operator_is (node_reads _ _ _ context _ n-bound _ node-at-same) match-keys5) (sym c.is_public.ensures ∙ c.if-is_public.true) in
    (omega arith, (omega arith, omega arith))

pub body_count-overflow_add-result : goal.body_count-overflow_add-result
body_count-overflow_add-result t c = let args = c.args in
    let (n-bound, body-count-bound) = c.requires in let context = c.args.function.now.context in
    let node-at-same = c.node_at-node.ensures.same in
    let h = body_operator (scope_in args.function.now.file.now args.function.now.at) _ _ _ _ (operator_is (node_reads _ _ _ context _ n-bound _ node-at-same) c.in-6.is) (sym c.is_public.ensures ∙ c.if-is_public.true) in
    omega (arith, c.body_count-left.ensures, c.body_count-right.ensures, body-count-bound)

pub body_count-circuit_count-requires : goal.body_count-circuit_count-requires
body_count-circuit_count-requires t c = let args = c.args in let (n-bound, _) = c.requires in let context = c.args.function.now.context in
    let h = body_supplied_operator (scope_in args.function.now.file.now args.function.now.at) _ _ _ _ (operator_is (node_reads _ _ _ context _ n-bound _ c.node_at-node.ensures.same) c.in-6.is) (sym c.is_public.ensures ∙ c.if-is_public.false) in
    (omega arith, (omega arith, omega arith))

pub body_count-overflow_add-result-else-is_public : goal.body_count-overflow_add-result-else-is_public
body_count-overflow_add-result-else-is_public t c = let args = c.args in
    let (n-bound, body-count-bound) = c.requires in let context = c.args.function.now.context in
    let h = body_supplied_operator (scope_in args.function.now.file.now args.function.now.at) _ _ _ _ (operator_is (node_reads _ _ _ context _ n-bound _ c.node_at-node.ensures.same) c.in-6.is) (sym c.is_public.ensures ∙ c.if-is_public.false) in
    omega (arith, c.circuit_count.ensures, body-count-bound)

pub body_count-is_public-requires-in-7 : goal.body_count-is_public-requires-in-7
body_count-is_public-requires-in-7 t c = let (n-bound, _) = c.requires in n-bound

pub body_count-body_count-requires-then-is_public-2 : goal.body_count-body_count-requires-then-is_public-2
body_count-body_count-requires-then-is_public-2 t c = let args = c.args in let (n-bound, _) = c.requires in
    let context = c.args.function.now.context in
    let node-at-same = c.node_at-node.ensures.same in let match-keys6 = c.in-7.is in
    let less = part_below (node_reads _ _ _ context _ n-bound _ node-at-same) match-keys6 in
    let h = body_negation (scope_in args.function.now.file.now args.function.now.at) _ _ (negation_is (node_reads _ _ _ context _ n-bound _ node-at-same) match-keys6) (sym c.is_public-in-7.ensures ∙ c.if-is_public-2.true) in
    (omega arith, (omega arith, omega arith))

pub body_count-circuit_count-requires-else-is_public-2 : goal.body_count-circuit_count-requires-else-is_public-2
body_count-circuit_count-requires-else-is_public-2 t c = let args = c.args in let (n-bound, _) = c.requires in
    let context = c.args.function.now.context in
    let h = body_supplied_negation (scope_in args.function.now.file.now args.function.now.at) _ _ (negation_is (node_reads _ _ _ context _ n-bound _ c.node_at-node.ensures.same) c.in-7.is) (sym c.is_public-in-7.ensures ∙ c.if-is_public-2.false) in
    (omega arith, (omega arith, omega arith))

pub body_count-overflow_add-result-else-is_public-2 : goal.body_count-overflow_add-result-else-is_public-2
body_count-overflow_add-result-else-is_public-2 t c = let args = c.args in
    let (n-bound, body-count-bound) = c.requires in let context = c.args.function.now.context in
    let h = body_supplied_negation (scope_in args.function.now.file.now args.function.now.at) _ _ (negation_is (node_reads _ _ _ context _ n-bound _ c.node_at-node.ensures.same) c.in-7.is) (sym c.is_public-in-7.ensures ∙ c.if-is_public-2.false) in
    omega (arith, c.circuit_count-else-is_public-2.ensures, body-count-bound)

pub body_count-circuit_count-requires-in-8 : goal.body_count-circuit_count-requires-in-8
body_count-circuit_count-requires-in-8 t c = let args = c.args in let (n-bound, _) = c.requires in
    let context = c.args.function.now.context in
    let h = body_reveal (scope_in args.function.now.file.now args.function.now.at) _ _ _ (reveal_is (node_reads _ _ _ context _ n-bound _ c.node_at-node.ensures.same) c.in-8.is) in
    (omega arith, (omega arith, omega arith))

pub body_count-overflow_add-result-in-8 : goal.body_count-overflow_add-result-in-8
body_count-overflow_add-result-in-8 t c = let args = c.args in let (n-bound, body-count-bound) = c.requires in
    let context = c.args.function.now.context in
    let h = body_reveal (scope_in args.function.now.file.now args.function.now.at) _ _ _ (reveal_is (node_reads _ _ _ context _ n-bound _ c.node_at-node.ensures.same) c.in-8.is) in
    omega (arith, c.circuit_count-in-8.ensures, body-count-bound)

pub body_count-returns-in-1 : goal.body_count-returns-in-1
body_count-returns-in-1 t c = let (n-bound, _) = c.requires in let context = c.args.function.now.context in
    body_constant _ _ _ _ (constant_is (node_reads _ _ _ context _ n-bound _ c.node_at-node.ensures.same) c.in-1.is)

pub body_count-returns-in-3 : goal.body_count-returns-in-3
body_count-returns-in-3 t c = let (n-bound, _) = c.requires in let context = c.args.function.now.context in
    body_field _ _ _ (field_is (node_reads _ _ _ context _ n-bound _ c.node_at-node.ensures.same) c.in-3.is)

pub body_count-returns-in-4 : goal.body_count-returns-in-4
body_count-returns-in-4 t c = let (n-bound, _) = c.requires in let context = c.args.function.now.context in
    c.body_count.ensures ∙ body_entry _ _ _ _ (entry_is (node_reads _ _ _ context _ n-bound _ c.node_at-node.ensures.same) c.in-4.is)

pub body_count-returns-in-5 : goal.body_count-returns-in-5
body_count-returns-in-5 t c = let (n-bound, _) = c.requires in let context = c.args.function.now.context in
    body_parameter _ _ _ (parameter_is (node_reads _ _ _ context _ n-bound _ c.node_at-node.ensures.same) c.in-5.is)

pub body_count-returns-then-is_public : goal.body_count-returns-then-is_public
body_count-returns-then-is_public t c = let args = c.args in
    let (n-bound, _) = c.requires in let context = c.args.function.now.context in let node-at-same = c.node_at-node.ensures.same in
    let h = body_operator (scope_in args.function.now.file.now args.function.now.at) _ _ _ _ (operator_is (node_reads _ _ _ context _ n-bound _ node-at-same) c.in-6.is) (sym c.is_public.ensures ∙ c.if-is_public.true) in
    omega (arith, c.body_count-left.ensures, c.body_count-right.ensures)

pub body_count-returns-else-is_public : goal.body_count-returns-else-is_public
body_count-returns-else-is_public t c = let args = c.args in let (n-bound, _) = c.requires in let context = c.args.function.now.context in
    let h = body_supplied_operator (scope_in args.function.now.file.now args.function.now.at) _ _ _ _ (operator_is (node_reads _ _ _ context _ n-bound _ c.node_at-node.ensures.same) c.in-6.is) (sym c.is_public.ensures ∙ c.if-is_public.false) in
    omega (arith, c.circuit_count.ensures)

pub body_count-returns-then-is_public-2 : goal.body_count-returns-then-is_public-2
body_count-returns-then-is_public-2 t c = let (n-bound, _) = c.requires in let context = c.args.function.now.context in
    c.body_count-then-is_public-2.ensures ∙ body_negation _ _ _ (negation_is (node_reads _ _ _ context _ n-bound _ c.node_at-node.ensures.same) c.in-7.is) (sym c.is_public-in-7.ensures ∙ c.if-is_public-2.true)

pub body_count-returns-else-is_public-2 : goal.body_count-returns-else-is_public-2
body_count-returns-else-is_public-2 t c = let args = c.args in let (n-bound, _) = c.requires in let context = c.args.function.now.context in
    let h = body_supplied_negation (scope_in args.function.now.file.now args.function.now.at) _ _ (negation_is (node_reads _ _ _ context _ n-bound _ c.node_at-node.ensures.same) c.in-7.is) (sym c.is_public-in-7.ensures ∙ c.if-is_public-2.false) in
    omega (arith, c.circuit_count-else-is_public-2.ensures)

pub body_count-returns-in-8 : goal.body_count-returns-in-8
body_count-returns-in-8 t c = let args = c.args in let (n-bound, _) = c.requires in let context = c.args.function.now.context in
    let h = body_reveal (scope_in args.function.now.file.now args.function.now.at) _ _ _ (reveal_is (node_reads _ _ _ context _ n-bound _ c.node_at-node.ensures.same) c.in-8.is) in
    omega (arith, c.circuit_count-in-8.ensures)

pub body_count-returns-in_default : goal.body_count-returns-in_default
body_count-returns-in_default t c = let (n-bound, _) = c.requires in let context = c.args.function.now.context in
    body_me _ _ (other_is (node_reads _ _ _ context _ n-bound _ c.node_at-node.ensures.same) (record { constant = (search rules); field = (search rules); entry = (search rules); parameter = (search rules); operator = (search rules); negation = (search rules); reveal = (search rules) }))

pub circuit_count-node_at-node-requires : goal.circuit_count-node_at-node-requires
circuit_count-node_at-node-requires t c = let context = c.args.function.now.context in (context.narrow, omega (arith, context.long))

pub circuit_count-body_count-requires : goal.circuit_count-body_count-requires
circuit_count-body_count-requires t c = let args = c.args in let (n-bound, _) = c.requires in let context = c.args.function.now.context in
    let node-at-same = c.node_at-node.ensures.same in
    let less = key_below (node_reads _ _ _ context _ n-bound _ node-at-same) c.in-4.is in
    let h = circuit_entry (scope_in args.function.now.file.now args.function.now.at) _ _ _ (entry_is (node_reads _ _ _ context _ n-bound _ node-at-same) c.in-4.is) in
    (omega arith, (omega arith, omega arith))

pub circuit_count-overflow_add-result : goal.circuit_count-overflow_add-result
circuit_count-overflow_add-result t c = let args = c.args in
    let (n-bound, circuit-count-bound) = c.requires in let context = c.args.function.now.context in
    let h = circuit_entry (scope_in args.function.now.file.now args.function.now.at) _ _ _ (entry_is (node_reads _ _ _ context _ n-bound _ c.node_at-node.ensures.same) c.in-4.is) in
    omega (arith, c.body_count.ensures, circuit-count-bound)

pub circuit_count-is_public_division-requires : goal.circuit_count-is_public_division-requires
circuit_count-is_public_division-requires t c = let (n-bound, _) = c.requires in n-bound

pub circuit_count-body_count-left-requires : goal.circuit_count-body_count-left-requires
circuit_count-body_count-left-requires t c = let args = c.args in let (n-bound, _) = c.requires in
    let context = c.args.function.now.context in
    let node-at-same = c.node_at-node.ensures.same in let match-keys5 = c.in-6.is in
    let less = operands_below (node_reads _ _ _ context _ n-bound _ node-at-same) match-keys5 in
    let h = circuit_division (scope_in args.function.now.file.now args.function.now.at) _ _ _ _ (operator_is (node_reads _ _ _ context _ n-bound _ node-at-same) match-keys5) (sym c.is_public_division.ensures ∙ c.if-is_public_division.true) in
    (omega arith, (omega arith, omega arith))

pub circuit_count-body_count-right-requires : goal.circuit_count-body_count-right-requires
circuit_count-body_count-right-requires t c = let args = c.args in let (n-bound, _) = c.requires in
    let context = c.args.function.now.context in
    let node-at-same = c.node_at-node.ensures.same in let match-keys5 = c.in-6.is in
    let less = operands_below (node_reads _ _ _ context _ n-bound _ node-at-same) match-keys5 in
    let h = circuit_division (scope_in args.function.now.file.now args.function.now.at) _ _ _ _ (operator_is (node_reads _ _ _ context _ n-bound _ node-at-same) match-keys5) (sym c.is_public_division.ensures ∙ c.if-is_public_division.true) in
    (omega arith, (omega arith, omega arith))

pub circuit_count-overflow_add-result-then-is_public_division : goal.circuit_count-overflow_add-result-then-is_public_division
circuit_count-overflow_add-result-then-is_public_division t c = let args = c.args in
    let (n-bound, circuit-count-bound) = c.requires in let context = c.args.function.now.context in
    let node-at-same = c.node_at-node.ensures.same in
    let h = circuit_division (scope_in args.function.now.file.now args.function.now.at) _ _ _ _ (operator_is (node_reads _ _ _ context _ n-bound _ node-at-same) c.in-6.is) (sym c.is_public_division.ensures ∙ c.if-is_public_division.true) in
    omega (arith, c.body_count-left.ensures, c.body_count-right.ensures, circuit-count-bound)

pub circuit_count-overflow_add-result-then-is_public_division-2 : goal.circuit_count-overflow_add-result-then-is_public_division-2
circuit_count-overflow_add-result-then-is_public_division-2 t c = let args = c.args in
    let (n-bound, circuit-count-bound) = c.requires in let context = c.args.function.now.context in
    let node-at-same = c.node_at-node.ensures.same in
    let h = circuit_division (scope_in args.function.now.file.now args.function.now.at) _ _ _ _ (operator_is (node_reads _ _ _ context _ n-bound _ node-at-same) c.in-6.is) (sym c.is_public_division.ensures ∙ c.if-is_public_division.true) in
    omega (arith, c.body_count-left.ensures, c.body_count-right.ensures, circuit-count-bound)

pub circuit_count-circuit_count-left-requires : goal.circuit_count-circuit_count-left-requires
circuit_count-circuit_count-left-requires t c = let args = c.args in let (n-bound, _) = c.requires in
    let context = c.args.function.now.context in
    let node-at-same = c.node_at-node.ensures.same in let match-keys5 = c.in-6.is in
    let less = operands_below (node_reads _ _ _ context _ n-bound _ node-at-same) match-keys5 in
    let h = circuit_operator (scope_in args.function.now.file.now args.function.now.at) _ _ _ _ (operator_is (node_reads _ _ _ context _ n-bound _ node-at-same) match-keys5) (sym c.is_public_division.ensures ∙ c.if-is_public_division.false) in
    (omega arith, (omega arith, omega arith))

pub circuit_count-circuit_count-right-requires : goal.circuit_count-circuit_count-right-requires
circuit_count-circuit_count-right-requires t c = let args = c.args in let (n-bound, _) = c.requires in
    let context = c.args.function.now.context in
    let node-at-same = c.node_at-node.ensures.same in let match-keys5 = c.in-6.is in
    let less = operands_below (node_reads _ _ _ context _ n-bound _ node-at-same) match-keys5 in
    let h = circuit_operator (scope_in args.function.now.file.now args.function.now.at) _ _ _ _ (operator_is (node_reads _ _ _ context _ n-bound _ node-at-same) match-keys5) (sym c.is_public_division.ensures ∙ c.if-is_public_division.false) in
    (omega arith, (omega arith, omega arith))

pub circuit_count-overflow_add-result-else-is_public_division : goal.circuit_count-overflow_add-result-else-is_public_division
circuit_count-overflow_add-result-else-is_public_division t c = let args = c.args in
    let (n-bound, circuit-count-bound) = c.requires in let context = c.args.function.now.context in
    let node-at-same = c.node_at-node.ensures.same in
    let h = circuit_operator (scope_in args.function.now.file.now args.function.now.at) _ _ _ _ (operator_is (node_reads _ _ _ context _ n-bound _ node-at-same) c.in-6.is) (sym c.is_public_division.ensures ∙ c.if-is_public_division.false) in
    omega (arith, c.circuit_count-left.ensures, c.circuit_count-right.ensures, circuit-count-bound)

pub circuit_count-circuit_count-requires : goal.circuit_count-circuit_count-requires
circuit_count-circuit_count-requires t c = let args = c.args in let (n-bound, _) = c.requires in
    let context = c.args.function.now.context in
    let node-at-same = c.node_at-node.ensures.same in
    let less = part_below (node_reads _ _ _ context _ n-bound _ node-at-same) c.in-7.is in
    let h = circuit_negation (scope_in args.function.now.file.now args.function.now.at) _ _ (negation_is (node_reads _ _ _ context _ n-bound _ node-at-same) c.in-7.is) in
    (omega arith, (omega arith, omega arith))

pub circuit_count-circuit_count-requires-in-8 : goal.circuit_count-circuit_count-requires-in-8
circuit_count-circuit_count-requires-in-8 t c = let args = c.args in let (n-bound, _) = c.requires in
    let context = c.args.function.now.context in
    let node-at-same = c.node_at-node.ensures.same in
    let less = revealed_below (node_reads _ _ _ context _ n-bound _ node-at-same) c.in-8.is in
    let h = circuit_reveal (scope_in args.function.now.file.now args.function.now.at) _ _ _ (reveal_is (node_reads _ _ _ context _ n-bound _ node-at-same) c.in-8.is) in
    (omega arith, (omega arith, omega arith))

pub circuit_count-returns-in-1 : goal.circuit_count-returns-in-1
circuit_count-returns-in-1 t c = let (n-bound, _) = c.requires in let context = c.args.function.now.context in
    circuit_constant _ _ _ _ (constant_is (node_reads _ _ _ context _ n-bound _ c.node_at-node.ensures.same) c.in-1.is)

pub circuit_count-returns-in-3 : goal.circuit_count-returns-in-3
circuit_count-returns-in-3 t c = let (n-bound, _) = c.requires in let context = c.args.function.now.context in
    circuit_field _ _ _ (field_is (node_reads _ _ _ context _ n-bound _ c.node_at-node.ensures.same) c.in-3.is)

pub circuit_count-returns-in-4 : goal.circuit_count-returns-in-4
circuit_count-returns-in-4 t c = let args = c.args in let (n-bound, _) = c.requires in let context = c.args.function.now.context in
    let h = circuit_entry (scope_in args.function.now.file.now args.function.now.at) _ _ _ (entry_is (node_reads _ _ _ context _ n-bound _ c.node_at-node.ensures.same) c.in-4.is) in
    omega (arith, c.body_count.ensures)

pub circuit_count-returns-in-5 : goal.circuit_count-returns-in-5
circuit_count-returns-in-5 t c = let (n-bound, _) = c.requires in let context = c.args.function.now.context in
    circuit_parameter _ _ _ (parameter_is (node_reads _ _ _ context _ n-bound _ c.node_at-node.ensures.same) c.in-5.is)

pub circuit_count-returns-then-is_public_division : goal.circuit_count-returns-then-is_public_division
circuit_count-returns-then-is_public_division t c = let args = c.args in
    let (n-bound, _) = c.requires in let context = c.args.function.now.context in let node-at-same = c.node_at-node.ensures.same in
    let h = circuit_division (scope_in args.function.now.file.now args.function.now.at) _ _ _ _ (operator_is (node_reads _ _ _ context _ n-bound _ node-at-same) c.in-6.is) (sym c.is_public_division.ensures ∙ c.if-is_public_division.true) in
    omega (arith, c.body_count-left.ensures, c.body_count-right.ensures)

pub circuit_count-returns-else-is_public_division : goal.circuit_count-returns-else-is_public_division
circuit_count-returns-else-is_public_division t c = let args = c.args in
    let (n-bound, _) = c.requires in let context = c.args.function.now.context in let node-at-same = c.node_at-node.ensures.same in
    let h = circuit_operator (scope_in args.function.now.file.now args.function.now.at) _ _ _ _ (operator_is (node_reads _ _ _ context _ n-bound _ node-at-same) c.in-6.is) (sym c.is_public_division.ensures ∙ c.if-is_public_division.false) in
    omega (arith, c.circuit_count-left.ensures, c.circuit_count-right.ensures)

pub circuit_count-returns-in-7 : goal.circuit_count-returns-in-7
circuit_count-returns-in-7 t c = let (n-bound, _) = c.requires in let context = c.args.function.now.context in
    c.circuit_count.ensures ∙ circuit_negation _ _ _ (negation_is (node_reads _ _ _ context _ n-bound _ c.node_at-node.ensures.same) c.in-7.is)

pub circuit_count-returns-in-8 : goal.circuit_count-returns-in-8
circuit_count-returns-in-8 t c = let (n-bound, _) = c.requires in let context = c.args.function.now.context in
    c.circuit_count-in-8.ensures ∙ circuit_reveal _ _ _ _ (reveal_is (node_reads _ _ _ context _ n-bound _ c.node_at-node.ensures.same) c.in-8.is)

pub circuit_count-returns-in_default : goal.circuit_count-returns-in_default
circuit_count-returns-in_default t c = let (n-bound, _) = c.requires in let context = c.args.function.now.context in
    circuit_me _ _ (other_is (node_reads _ _ _ context _ n-bound _ c.node_at-node.ensures.same) (record { constant = (search rules); field = (search rules); entry = (search rules); parameter = (search rules); operator = (search rules); negation = (search rules); reveal = (search rules) }))
