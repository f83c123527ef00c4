-- By the node's kind.
use Rattle.rewrite_plans.proofs.PlansByKind.{supplied_operator, supplied_negation, supplied_reveal, supplied_rest}
use Rattle.theory_trees.proofs.ByKind.{operator_is, negation_is, reveal_is}
use Rattle.file_accepted.proofs.Nodes.{node_reads}
use Rattle.kit.specs.Names.{arith, rules}
use Rattle.rewrite_plans.proofs.supplied_code.Goals as goal

pub returns-in-6 : goal.returns-in-6
returns-in-6 c = let n-bound = c.requires in let context = c.args.function.now.context in
    supplied_operator _ _ _ c.owner_code.ensures _ _ _ _ (operator_is (node_reads _ _ _ context _ n-bound _ c.node_at-node.ensures.same) c.in-6.is) c.private_code.ensures

pub returns-in-7 : goal.returns-in-7
returns-in-7 c = let n-bound = c.requires in let context = c.args.function.now.context in
    supplied_negation _ _ _ c.owner_code-in-7.ensures _ _ (negation_is (node_reads _ _ _ context _ n-bound _ c.node_at-node.ensures.same) c.in-7.is) c.private_code-in-7.ensures

pub returns-in-8 : goal.returns-in-8
returns-in-8 c = let n-bound = c.requires in let context = c.args.function.now.context in
    supplied_reveal _ _ _ c.owner_code-in-8.ensures _ _ (omega arith) (reveal_is (node_reads _ _ _ context _ n-bound _ c.node_at-node.ensures.same) c.in-8.is)

pub returns-in_default : goal.returns-in_default
returns-in_default c = let n-bound = c.requires in let context = c.args.function.now.context in
    supplied_rest _ _ _ context _ n-bound _ c.node_at-node.ensures.same (search rules) (search rules) (search rules)
