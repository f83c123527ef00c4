-- What judging leaves in the column of owners.
use Rattle.std.specs.Prelude.{◌∷◌, ◌++◌}
use Rattle.kit.specs.Names.{cond, List, [], map, ℕ, zero, suc, set}
use Rattle.definitions.specs.Basics.{flat_map}
use Rattle.definitions.specs.ContractFile.{Scope, Node, node_at, expression_parts, statement_parts, is_expression, is_statement}
use Rattle.definitions.specs.Owners.{owner_of}
use Rattle.theory_trees.specs.Trees.{expression_in}
use Rattle.rules_owners.specs.Numbering.{number_of_owner}

-- The expressions that are parts of a node which stands as an expression, and as a statement.
abbrev pub parts_of_expression : Node → List ℕ
parts_of_expression node = cond (is_expression node) (expression_parts node) []

abbrev pub expressions_of_statement : Node → List ℕ
expressions_of_statement node = cond (is_statement node) (expression_parts node) []

-- A node's number where an expression is due, or a statement; the node, and its parts.
pub data Place : Type 0 where
  expression statement : ℕ → Place

abbrev pub number_of : Place → ℕ
number_of = elim [ expression n ↦ n | statement n ↦ n ]

unfoldable pub parts_at : List Node → Place → List Place
parts_at nodes (expression n) = map expression (parts_of_expression (node_at nodes n))
parts_at nodes (statement n) =
    map expression (expressions_of_statement (node_at nodes n)) ++ map statement (statement_parts (node_at nodes n))

-- The numbers of the expressions' nodes at a place, parts first.
abbrev pub own_at : Place → List ℕ
own_at = elim [ expression n ↦ n ∷ [] | statement n ↦ [] ]

unfoldable pub numbers_at : ℕ → List Node → Place → List ℕ
numbers_at zero nodes place = []
numbers_at (suc levels) nodes place = flat_map (numbers_at levels nodes) (parts_at nodes place) ++ own_at place

-- A child's number is below its parent's, so n + 1 levels hold all that is under node n.
abbrev pub numbers_under : List Node → Place → List ℕ
numbers_under nodes place = numbers_at (suc (number_of place)) nodes place

abbrev pub expressions_under : List Node → ℕ → List ℕ
expressions_under nodes n = numbers_under nodes (expression n)

abbrev pub statements_under : List Node → ℕ → List ℕ
statements_under nodes n = numbers_under nodes (statement n)

-- A column in which some nodes got their owners, one after the other.
unfoldable pub marked : (ℕ → ℕ) → List ℕ → List ℕ → List ℕ
marked owner [] column = column
marked owner (n ∷ ns) column = marked owner ns (set column n (owner n))

-- The number of the owner of node n's expression.
abbrev pub owner_at : Scope → List Node → ℕ → ℕ
owner_at scope nodes n = number_of_owner (owner_of scope (expression_in nodes n))
