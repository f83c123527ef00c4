-- A leaf is a tree of one node, whatever its number.
use Rattle.kit.specs.Names.{refl}
use Rattle.write_nodes.proofs.TreeNodes.{numbered_as, numbered_leaf}
use Rattle.write_circuit_expressions.proofs.put_plain.Goals as goal

pub returns : goal.returns
returns c = let put-leaf = c.put_leaf-nodes.ensures in
    (λ base. numbered_as _ _ _ _ _ _ _ _ refl put-leaf.1 (numbered_leaf _ _ base _ _ _ _ _ put-leaf.0), refl)
