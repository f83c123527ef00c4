use Rattle.kit.specs.Names.{arith, rules}
use Rattle.theory_laws.proofs.Records.{kind_as}
use Rattle.theory_trees.proofs.ByKind.{still_is, sequence_is, conditional_is}
use Rattle.file_accepted.proofs.Nodes.{node_reads}
use Rattle.write_nodes.proofs.TreeNodes.{room_any, numbered_as, numbered_leaf}
use Rattle.write_simple_statements.proofs.Statements.{form_of_sequence, form_of_conditional, form_of_skip}
use Rattle.write_simple_statements.proofs.write_statement_form.Goals as goal

pub node_at-node-requires : goal.node_at-node-requires
node_at-node-requires c = let context = c.args.function.now.context in (context.narrow, omega (arith, context.long))

pub put_leaf-requires : goal.put_leaf-requires
put_leaf-requires c = let (_, (_, room)) = c.requires in room_any _ _ _ _ room

pub write_field_form-requires : goal.write_field_form-requires
write_field_form-requires c = (kind_as _ _ 18 c.node_at-node.ensures.same c.in-18.is, c.requires)

pub write_entry_form-requires : goal.write_entry_form-requires
write_entry_form-requires c = (kind_as _ _ 19 c.node_at-node.ensures.same c.in-19.is, c.requires)

pub write_require_form-requires : goal.write_require_form-requires
write_require_form-requires c = (kind_as _ _ 20 c.node_at-node.ensures.same c.in-20.is, c.requires)

pub put_leaf-requires-in-21 : goal.put_leaf-requires-in-21
put_leaf-requires-in-21 c = let (_, (_, room)) = c.requires in room_any _ _ _ _ room

pub put_leaf-requires-in_default : goal.put_leaf-requires-in_default
put_leaf-requires-in_default c = let (_, (_, room)) = c.requires in room_any _ _ _ _ room

pub shape_of-out-in-17 : goal.shape_of-out-in-17
shape_of-out-in-17 c = c.put_leaf.auto.out

pub returns-in-17 : goal.returns-in-17
returns-in-17 c = let (n-bound, _) = c.requires in let context = c.args.function.now.context in
    let node-at-same = c.node_at-node.ensures.same in
    let put-leaf = c.put_leaf.ensures in
    numbered_as _ _ _ _ _ _ _ _ (form_of_sequence _ _ _ _ _ (sequence_is (node_reads _ _ _ context _ n-bound _ node-at-same) c.in-17.is)) put-leaf.1 (numbered_leaf _ _ _ _ _ _ _ _ put-leaf.0)

pub shape_of-out-in-18 : goal.shape_of-out-in-18
shape_of-out-in-18 c = c.write_field_form.auto.out

pub returns-in-18 : goal.returns-in-18
returns-in-18 c = c.write_field_form.ensures

pub shape_of-out-in-19 : goal.shape_of-out-in-19
shape_of-out-in-19 c = c.write_entry_form.auto.out

pub returns-in-19 : goal.returns-in-19
returns-in-19 c = c.write_entry_form.ensures

pub shape_of-out-in-20 : goal.shape_of-out-in-20
shape_of-out-in-20 c = c.write_require_form.auto.out

pub returns-in-20 : goal.returns-in-20
returns-in-20 c = c.write_require_form.ensures

pub shape_of-out-in-21 : goal.shape_of-out-in-21
shape_of-out-in-21 c = c.put_leaf-in-21.auto.out

pub returns-in-21 : goal.returns-in-21
returns-in-21 c = let (n-bound, _) = c.requires in let context = c.args.function.now.context in
    let node-at-same = c.node_at-node.ensures.same in
    let put-leaf2 = c.put_leaf-in-21.ensures in
    numbered_as _ _ _ _ _ _ _ _ (form_of_conditional _ _ _ _ _ _ (conditional_is (node_reads _ _ _ context _ n-bound _ node-at-same) c.in-21.is)) put-leaf2.1 (numbered_leaf _ _ _ _ _ _ _ _ put-leaf2.0)

pub shape_of-out-in_default : goal.shape_of-out-in_default
shape_of-out-in_default c = c.put_leaf-in_default.auto.out

pub returns-in_default : goal.returns-in_default
returns-in_default c = let (n-bound, _) = c.requires in let context = c.args.function.now.context in
    let node-at-same = c.node_at-node.ensures.same in
    let put-leaf3 = c.put_leaf-in_default.ensures in numbered_as _ _ _ _ _ _ _ _ (form_of_skip _ _ _ (still_is (node_reads _ _ _ context _ n-bound _ node-at-same) (record { sequence = (search rules); assign_field = (search rules); assign_entry = (search rules); require = (search rules); conditional = (search rules) }))) put-leaf3.1 (numbered_leaf _ _ _ _ _ _ _ _ put-leaf3.0)
