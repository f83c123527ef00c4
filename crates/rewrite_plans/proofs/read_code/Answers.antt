-- By the node's kind.
use Rattle.rewrite_plans.proofs.PlansByKind.{read_place, read_operator, read_rest, read_field, read_entry_law, read_parameter}
use Rattle.theory_trees.proofs.ByKind.{operator_is}
use Rattle.file_accepted.proofs.Nodes.{node_reads}
use Rattle.kit.specs.Names.{arith, rules}
use Rattle.rewrite_plans.proofs.read_code.Goals as goal

pub returns-in-3 : goal.returns-in-3
returns-in-3 c = let n-bound = c.requires in let context = c.args.function.now.context in
    read_place _ _ _ c.owner_code.ensures (omega arith) (read_field _ _ _ context _ n-bound _ c.node_at-node.ensures.same c.in-3.is)

pub returns-in-4 : goal.returns-in-4
returns-in-4 c = let n-bound = c.requires in let context = c.args.function.now.context in
    read_place _ _ _ c.owner_code-in-4.ensures (omega arith) (read_entry_law _ _ _ context _ n-bound _ c.node_at-node.ensures.same c.in-4.is)

pub returns-in-5 : goal.returns-in-5
returns-in-5 c = let n-bound = c.requires in let context = c.args.function.now.context in
    read_place _ _ _ c.owner_code-in-5.ensures (omega arith) (read_parameter _ _ _ context _ n-bound _ c.node_at-node.ensures.same c.in-5.is)

pub returns-in-6 : goal.returns-in-6
returns-in-6 c = let n-bound = c.requires in let context = c.args.function.now.context in
    read_operator _ _ _ _ _ _ (operator_is (node_reads _ _ _ context _ n-bound _ c.node_at-node.ensures.same) c.in-6.is) c.division_code.ensures

pub returns-in_default : goal.returns-in_default
returns-in_default c = let n-bound = c.requires in let context = c.args.function.now.context in
    read_rest _ _ _ context _ n-bound _ c.node_at-node.ensures.same (search rules) (search rules) (search rules) (search rules)
