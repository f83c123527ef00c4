-- The tree of a node, with just the levels that it needs, and when the nodes' numbers fall from parent to child.
use Rattle.std.specs.Prelude.{◌≡◌}
use Rattle.kit.specs.Names.{true, List, ℕ, suc, ltb}
use Rattle.definitions.specs.Basics.{all}
use Rattle.definitions.specs.ContractFile.{Expression, Statement, NodeRecord, Node, node_of, node_at, children, expression_of, expression_at}
use Rattle.definitions.specs.ContractFile.{statement_of, statement_at}

abbrev pub expression_in : List Node → ℕ → Expression
expression_in nodes n = expression_at (suc n) nodes n

abbrev pub statement_in : List Node → ℕ → Statement
statement_in nodes n = statement_at (suc n) nodes n

-- A node that a record reads as: its tree is made of its children's.
abbrev pub IsRead : Node → Type 0
IsRead node = (r : NodeRecord) × (node ≡ node_of r)

-- Number 4: "a child's number isn't below its parent's" holds nowhere.
pub record Falling (nodes : List Node) : Type 0 where
  pub read : (n : ℕ) → IsRead (node_at nodes n)
  pub below : (n : ℕ) → all (λ child. ltb child n) (children (node_at nodes n)) ≡ true

-- A node makes trees that meet P and Q of trees that do.
abbrev pub Keeps : (Expression → Type 0) → (Statement → Type 0) → Node → Type 0
Keeps P Q x = (below : ℕ → Expression) → ((m : ℕ) → P (below m))
    → P (expression_of x below) × ((later : ℕ → Statement) → ((m : ℕ) → Q (later m)) → Q (statement_of x below later))

-- Node n of some nodes, whose numbers fall, is the one that a record reads as.
pub record Reads (nodes : List Node) (n : ℕ) (r : NodeRecord) : Type 0 where
  pub falling : Falling nodes
  pub named : node_at nodes n ≡ node_of r
