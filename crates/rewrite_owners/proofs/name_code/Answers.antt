use Rattle.theory_trees.proofs.ByKind.{constant_is, field_is, entry_is, parameter_is, operator_is, negation_is, reveal_is, other_is}
use Rattle.file_accepted.proofs.Nodes.{node_reads}
use Rattle.rewrite_owners.proofs.Names.{unnamed_constant, named_me, named_field, unnamed_entry, named_parameter, unnamed_operator, unnamed_negation, unnamed_reveal}
use Rattle.kit.specs.Names.{rules}
use Rattle.rewrite_owners.proofs.name_code.Goals as goal

pub returns-in-1 : goal.returns-in-1
returns-in-1 c = let n-bound = c.requires in let context = c.args.function.now.context in
    unnamed_constant _ _ _ _ (constant_is (node_reads _ _ _ context _ n-bound _ c.node_at-node.ensures.same) c.in-1.is)

pub returns-in-3 : goal.returns-in-3
returns-in-3 c = let n-bound = c.requires in let context = c.args.function.now.context in
    named_field _ _ _ _ (field_is (node_reads _ _ _ context _ n-bound _ c.node_at-node.ensures.same) c.in-3.is) c.final_code.ensures

pub returns-in-4 : goal.returns-in-4
returns-in-4 c = let n-bound = c.requires in let context = c.args.function.now.context in
    unnamed_entry _ _ _ _ (entry_is (node_reads _ _ _ context _ n-bound _ c.node_at-node.ensures.same) c.in-4.is)

pub returns-in-5 : goal.returns-in-5
returns-in-5 c = let n-bound = c.requires in let context = c.args.function.now.context in
    named_parameter _ _ _ _ (parameter_is (node_reads _ _ _ context _ n-bound _ c.node_at-node.ensures.same) c.in-5.is) c.address_code.ensures

pub returns-in-6 : goal.returns-in-6
returns-in-6 c = let n-bound = c.requires in let context = c.args.function.now.context in
    unnamed_operator _ _ _ _ _ (operator_is (node_reads _ _ _ context _ n-bound _ c.node_at-node.ensures.same) c.in-6.is)

pub returns-in-7 : goal.returns-in-7
returns-in-7 c = let n-bound = c.requires in let context = c.args.function.now.context in
    unnamed_negation _ _ _ (negation_is (node_reads _ _ _ context _ n-bound _ c.node_at-node.ensures.same) c.in-7.is)

pub returns-in-8 : goal.returns-in-8
returns-in-8 c = let n-bound = c.requires in let context = c.args.function.now.context in
    unnamed_reveal _ _ _ _ (reveal_is (node_reads _ _ _ context _ n-bound _ c.node_at-node.ensures.same) c.in-8.is)

pub returns-in_default : goal.returns-in_default
returns-in_default c = let n-bound = c.requires in let context = c.args.function.now.context in named_me _ _ (other_is (node_reads _ _ _ context _ n-bound _ c.node_at-node.ensures.same) (record { constant = (search rules); field = (search rules); entry = (search rules); parameter = (search rules); operator = (search rules); negation = (search rules); reveal = (search rules) }))
