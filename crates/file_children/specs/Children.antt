-- 01, The contract file, "Kinds": how many parts of a node are children, and of which sort a kind is.
use Rattle.std.specs.Prelude.{◌&&◌, ◌∷◌}
use Rattle.kit.specs.Names.{Bool, List, [], ℕ, leb, length}
use Rattle.definitions.specs.ContractFile.{NodeRecord, node, Node, Kind, kind_of, node_of_kind, expression_parts, children}

-- Some node of a kind: how many children it has, and its sort, do not depend on its parts.
abbrev pub node_of_same : Kind → Node
node_of_same kind = node_of_kind kind (node 0 0 0 0 0)

abbrev pub children_of_kind : Kind → ℕ
children_of_kind kind = length (children (node_of_same kind))

abbrev pub expressions_of_kind : Kind → ℕ
expressions_of_kind kind = length (expression_parts (node_of_same kind))

unfoldable pub child_count : ℕ → ℕ
child_count kind = children_of_kind (kind_of kind)

unfoldable pub expression_count : ℕ → ℕ
expression_count kind = expressions_of_kind (kind_of kind)

-- The parts that can be children, in their order.
abbrev pub parts : NodeRecord → List ℕ
parts r = r.first ∷ r.second ∷ r.third ∷ []

abbrev pub is_expression_kind : ℕ → Bool
is_expression_kind kind = leb 1 kind && leb kind 8

abbrev pub is_statement_kind : ℕ → Bool
is_statement_kind kind = leb 16 kind && leb kind 21
