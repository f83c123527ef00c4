use Rattle.kit.specs.Names.{ap, sym, ◌∙◌, arith, rules}
use Rattle.definitions.specs.ContractFile.{NodeRecord}
use Rattle.write_trees.proofs.Read.{read_here}
use Rattle.walk_steps.specs.Walk.{hands_on}
use Rattle.walk_steps.proofs.Steps.{hands_sequence, hands_conditional, hands_nothing}
use Rattle.walk_commands.proofs.hands_on.Goals as goal

pub read_node-node-requires : goal.read_node-node-requires
read_node-node-requires c = let (n-bound, readable) = c.requires in omega (arith, readable.few, n-bound)

pub returns-in-17 : goal.returns-in-17
returns-in-17 c = let (n-bound, _) = c.requires in
    hands_sequence _ c.in-17.is ∙ ap (λ (r : NodeRecord). hands_on r.kind) (sym (read_here _ _ n-bound _ c.read_node-node.ensures))

pub returns-in-21 : goal.returns-in-21
returns-in-21 c = let (n-bound, _) = c.requires in
    hands_conditional _ c.in-21.is ∙ ap (λ (r : NodeRecord). hands_on r.kind) (sym (read_here _ _ n-bound _ c.read_node-node.ensures))

pub returns-in_default : goal.returns-in_default
returns-in_default c = let (n-bound, _) = c.requires in
    hands_nothing c.read_node-node.result.kind (search rules) (search rules) ∙ ap (λ (r : NodeRecord). hands_on r.kind) (sym (read_here _ _ n-bound _ c.read_node-node.ensures))
