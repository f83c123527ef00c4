use Rattle.kit.specs.Names.{refl, arith, rules}
use Rattle.theory_trees.proofs.ByKind.{constant_is, field_is, entry_is, parameter_is, operator_is, negation_is, reveal_is, other_is, key_below, part_below, revealed_below, operands_below}
use Rattle.file_accepted.proofs.Nodes.{node_reads}
use Rattle.honest_values.proofs.ValuesByKind.{kind_as, constant_value_law, me_value, field_value, entry_value, parameter_value, operator_value, negation_value, reveal_value}
use Rattle.honest_values.proofs.+entry_value_negation_value_operator_value_value.Goals as goal

pub entry_value-value-key-requires : goal.entry_value-value-key-requires
entry_value-value-key-requires t c = let (kind-at-is, n-bound) = c.requires in let context = c.args.function.now.context in
    let less = key_below (node_reads _ _ _ context _ n-bound _ c.node_at-node.ensures.same) (kind_as _ _ _ c.node_at-node.ensures.same kind-at-is) in
    (omega (arith, c.decreases, less), omega (arith, n-bound, less))

pub entry_value-returns : goal.entry_value-returns
entry_value-returns t c = let (kind-at-is, n-bound) = c.requires in let context = c.args.function.now.context in
    let node-at-same = c.node_at-node.ensures.same in
    entry_value _ _ _ _ _ _ _ _ _ _ (entry_is (node_reads _ _ _ context _ n-bound _ node-at-same) (kind_as _ _ _ node-at-same kind-at-is)) c.value-key.ensures c.position.ensures c.number_at.ensures

pub negation_value-value-part-requires : goal.negation_value-value-part-requires
negation_value-value-part-requires t c = let (kind-at-is, n-bound) = c.requires in let context = c.args.function.now.context in
    let less = part_below (node_reads _ _ _ context _ n-bound _ c.node_at-node.ensures.same) (kind_as _ _ _ c.node_at-node.ensures.same kind-at-is) in
    (omega (arith, c.decreases, less), omega (arith, n-bound, less))

pub negation_value-returns : goal.negation_value-returns
negation_value-returns t c = let (kind-at-is, n-bound) = c.requires in let context = c.args.function.now.context in
    let node-at-same = c.node_at-node.ensures.same in
    negation_value _ _ _ _ _ _ _ _ (negation_is (node_reads _ _ _ context _ n-bound _ node-at-same) (kind_as _ _ _ node-at-same kind-at-is)) c.value-part.ensures c.negated.ensures

pub operator_value-value-left-requires : goal.operator_value-value-left-requires
operator_value-value-left-requires t c = let (kind-at-is, n-bound) = c.requires in let context = c.args.function.now.context in
    let less = operands_below (node_reads _ _ _ context _ n-bound _ c.node_at-node.ensures.same) (kind_as _ _ _ c.node_at-node.ensures.same kind-at-is) in
    (omega (arith, c.decreases, less.0), omega (arith, n-bound, less.0))

pub operator_value-value-right-requires : goal.operator_value-value-right-requires
operator_value-value-right-requires t c = let (kind-at-is, n-bound) = c.requires in let context = c.args.function.now.context in
    let node-at-same = c.node_at-node.ensures.same in
    let less = operands_below (node_reads _ _ _ context _ n-bound _ node-at-same) (kind_as _ _ _ node-at-same kind-at-is) in
    (omega (arith, c.decreases, less.1), omega (arith, n-bound, less.1))

pub operator_value-returns : goal.operator_value-returns
operator_value-returns t c = let (kind-at-is, n-bound) = c.requires in let context = c.args.function.now.context in
    let node-at-same = c.node_at-node.ensures.same in
    operator_value _ _ _ _ _ _ _ _ _ _ _ (operator_is (node_reads _ _ _ context _ n-bound _ node-at-same) (kind_as _ _ _ node-at-same kind-at-is)) c.value-left.ensures c.value-right.ensures c.operated.ensures

pub value-value-requires : goal.value-value-requires
value-value-requires t c = let n-bound = c.requires in let context = c.args.function.now.context in
    let less = revealed_below (node_reads _ _ _ context _ n-bound _ c.node_at-node.ensures.same) c.in-8.is in
    (omega (arith, c.decreases, less), omega (arith, n-bound, less))

pub value-returns-in-1 : goal.value-returns-in-1
value-returns-in-1 t c = let n-bound = c.requires in let context = c.args.function.now.context in
    constant_value_law _ _ _ _ _ _ _ _ (constant_is (node_reads _ _ _ context _ n-bound _ c.node_at-node.ensures.same) c.in-1.is) c.constant_of.ensures

pub value-returns-in-3 : goal.value-returns-in-3
value-returns-in-3 t c = let n-bound = c.requires in let context = c.args.function.now.context in
    field_value _ _ _ _ _ _ _ _ (field_is (node_reads _ _ _ context _ n-bound _ c.node_at-node.ensures.same) c.in-3.is) c.position.ensures c.number_at.ensures

pub value-returns-in-5 : goal.value-returns-in-5
value-returns-in-5 t c = let n-bound = c.requires in let context = c.args.function.now.context in
    parameter_value _ _ _ _ _ _ _ (parameter_is (node_reads _ _ _ context _ n-bound _ c.node_at-node.ensures.same) c.in-5.is) c.number_at-in-5.ensures

pub value-returns-in-8 : goal.value-returns-in-8
value-returns-in-8 t c = let n-bound = c.requires in let context = c.args.function.now.context in
    reveal_value _ _ _ _ _ _ _ _ (reveal_is (node_reads _ _ _ context _ n-bound _ c.node_at-node.ensures.same) c.in-8.is) c.value.ensures

pub value-returns-in_default : goal.value-returns-in_default
value-returns-in_default t c = let n-bound = c.requires in let context = c.args.function.now.context in
    me_value _ _ _ _ _ _ (other_is (node_reads _ _ _ context _ n-bound _ c.node_at-node.ensures.same) (record { constant = (search rules); field = (search rules); entry = (search rules); parameter = (search rules); operator = (search rules); negation = (search rules); reveal = (search rules) })) refl
