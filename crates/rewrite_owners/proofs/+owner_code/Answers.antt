use Rattle.kit.specs.Names.{arith, rules}
use Rattle.theory_trees.proofs.ByKind.{constant_is, field_is, entry_is, parameter_is, operator_is, negation_is, reveal_is, other_is, key_below, part_below, operands_below}
use Rattle.file_accepted.proofs.Nodes.{node_reads}
use Rattle.rewrite_owners.proofs.Names.{owned_constant, owned_me, owned_field, owned_entry, owned_parameter, owned_by_left, owned_by_right, owned_negation, owned_reveal}
use Rattle.rewrite_owners.proofs.Targets.{target_listed}
use Rattle.rewrite_owners.proofs.+owner_code.Goals as goal

pub node_at-node-requires : goal.node_at-node-requires
node_at-node-requires t c = let context = c.args.function.now.context in (context.narrow, omega (arith, context.long))

pub field_owner-requires : goal.field_owner-requires
field_owner-requires t c = let context = c.args.function.now.context in
    (c.node_at-node.ensures.small_arg, record { at = context.field_listed })

pub field_owner-requires-in-4 : goal.field_owner-requires-in-4
field_owner-requires-in-4 t c = let context = c.args.function.now.context in
    (c.node_at-node.ensures.small_arg, record { at = context.field_listed })

pub name_code-requires : goal.name_code-requires
name_code-requires t c = let n-bound = c.requires in let context = c.args.function.now.context in
    let less = key_below (node_reads _ _ _ context _ n-bound _ c.node_at-node.ensures.same) c.in-4.is in
    omega arith

pub parameter_code-requires : goal.parameter_code-requires
parameter_code-requires t c = let context = c.args.function.now.context in (context.near_function, context.few_parameters)

pub owner_code-requires : goal.owner_code-requires
owner_code-requires t c = let n-bound = c.requires in let context = c.args.function.now.context in
    let less = operands_below (node_reads _ _ _ context _ n-bound _ c.node_at-node.ensures.same) c.in-6.is in
    (omega arith, omega arith)

pub owner_code-requires-then-owner_code-eq-EVERYONE_BYTE : goal.owner_code-requires-then-owner_code-eq-EVERYONE_BYTE
owner_code-requires-then-owner_code-eq-EVERYONE_BYTE t c = let n-bound = c.requires in let context = c.args.function.now.context in
    let less = operands_below (node_reads _ _ _ context _ n-bound _ c.node_at-node.ensures.same) c.in-6.is in
    (omega arith, omega arith)

pub owner_code-requires-in-7 : goal.owner_code-requires-in-7
owner_code-requires-in-7 t c = let n-bound = c.requires in let context = c.args.function.now.context in
    let less = part_below (node_reads _ _ _ context _ n-bound _ c.node_at-node.ensures.same) c.in-7.is in
    (omega arith, omega arith)

pub returns-in-1 : goal.returns-in-1
returns-in-1 t c = let n-bound = c.requires in let context = c.args.function.now.context in
    owned_constant _ _ _ _ (constant_is (node_reads _ _ _ context _ n-bound _ c.node_at-node.ensures.same) c.in-1.is)

pub returns-in-3 : goal.returns-in-3
returns-in-3 t c = let n-bound = c.requires in let context = c.args.function.now.context in
    owned_field _ _ _ _ _ (field_is (node_reads _ _ _ context _ n-bound _ c.node_at-node.ensures.same) c.in-3.is) c.field_owner.ensures c.place_code.ensures

pub returns-in-4 : goal.returns-in-4
returns-in-4 t c = let n-bound = c.requires in let context = c.args.function.now.context in
    owned_entry _ _ _ _ _ _ _ (entry_is (node_reads _ _ _ context _ n-bound _ c.node_at-node.ensures.same) c.in-4.is) c.field_owner-in-4.ensures c.name_code.ensures c.place_code-in-4.ensures

pub returns-in-5 : goal.returns-in-5
returns-in-5 t c = let n-bound = c.requires in let context = c.args.function.now.context in
    owned_parameter _ _ _ _ (parameter_is (node_reads _ _ _ context _ n-bound _ c.node_at-node.ensures.same) c.in-5.is) c.parameter_code.ensures

pub returns-then-owner_code-eq-EVERYONE_BYTE : goal.returns-then-owner_code-eq-EVERYONE_BYTE
returns-then-owner_code-eq-EVERYONE_BYTE t c = let n-bound = c.requires in let context = c.args.function.now.context in
    owned_by_right _ _ _ _ _ _ (operator_is (node_reads _ _ _ context _ n-bound _ c.node_at-node.ensures.same) c.in-6.is) c.owner_code.ensures _ _ c.if-owner_code-eq-EVERYONE_BYTE.true c.owner_code-then-owner_code-eq-EVERYONE_BYTE.ensures c.parts_code.ensures

pub returns-else-owner_code-eq-EVERYONE_BYTE : goal.returns-else-owner_code-eq-EVERYONE_BYTE
returns-else-owner_code-eq-EVERYONE_BYTE t c = let n-bound = c.requires in let context = c.args.function.now.context in
    owned_by_left _ _ _ _ _ _ (operator_is (node_reads _ _ _ context _ n-bound _ c.node_at-node.ensures.same) c.in-6.is) c.owner_code.ensures c.if-owner_code-eq-EVERYONE_BYTE.false

pub returns-in-7 : goal.returns-in-7
returns-in-7 t c = let n-bound = c.requires in let context = c.args.function.now.context in
    owned_negation _ _ _ _ _ (negation_is (node_reads _ _ _ context _ n-bound _ c.node_at-node.ensures.same) c.in-7.is) c.owner_code-in-7.ensures c.parts_code-in-7.ensures

pub returns-in-8 : goal.returns-in-8
returns-in-8 t c = let n-bound = c.requires in let context = c.args.function.now.context in
    let node-at-same = c.node_at-node.ensures.same in
    let match-keys7 = c.in-8.is in
    owned_reveal _ _ _ _ (reveal_is (node_reads _ _ _ context _ n-bound _ node-at-same) match-keys7) (target_listed _ _ _ context _ n-bound _ node-at-same match-keys7)

pub returns-in_default : goal.returns-in_default
returns-in_default t c = let n-bound = c.requires in let context = c.args.function.now.context in owned_me _ _ (other_is (node_reads _ _ _ context _ n-bound _ c.node_at-node.ensures.same) (record { constant = (search rules); field = (search rules); entry = (search rules); parameter = (search rules); operator = (search rules); negation = (search rules); reveal = (search rules) }))
