-- By the node's kind.
use Rattle.rewrite_plans.proofs.PlansByKind.{parts_entry, parts_operator, parts_negation, parts_reveal, parts_rest}
use Rattle.kit.specs.Names.{rules}
use Rattle.rewrite_plans.proofs.parts_of.Goals as goal

pub returns-in-4 : goal.returns-in-4
returns-in-4 c = let n-bound = c.requires in let context = c.args.function.now.context in
    parts_entry _ _ _ context _ n-bound _ c.node_at-node.ensures.same c.in-4.is

pub returns-in-6 : goal.returns-in-6
returns-in-6 c = let n-bound = c.requires in let context = c.args.function.now.context in
    parts_operator _ _ _ context _ n-bound _ c.node_at-node.ensures.same c.in-6.is

pub returns-in-7 : goal.returns-in-7
returns-in-7 c = let n-bound = c.requires in let context = c.args.function.now.context in
    parts_negation _ _ _ context _ n-bound _ c.node_at-node.ensures.same c.in-7.is

pub returns-in-8 : goal.returns-in-8
returns-in-8 c = let n-bound = c.requires in let context = c.args.function.now.context in
    parts_reveal _ _ _ context _ n-bound _ c.node_at-node.ensures.same c.in-8.is

pub returns-in_default : goal.returns-in_default
returns-in_default c = let n-bound = c.requires in let context = c.args.function.now.context in
    parts_rest _ _ _ context _ n-bound _ c.node_at-node.ensures.same (search rules) (search rules) (search rules) (search rules)
