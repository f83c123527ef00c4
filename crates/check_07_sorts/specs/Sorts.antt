-- 01, number 7: roots and children of another sort than is due.
use Rattle.std.specs.Prelude.{◌||◌, ◌/◌}
use Rattle.kit.specs.Names.{Bool, cond, not, List, map, ℕ, length}
use Rattle.definitions.specs.Basics.{any}
use Rattle.definitions.specs.ContractFile.{FunctionRecord, Node, node_of, node_at, is_expression, is_statement, expression_parts, statement_parts}
use Rattle.file_decoded.specs.Slices.{nodes_from}

-- The nodes whose numbers a slice holds.
abbrev pub nodes_in : List ℕ → List Node
nodes_in numbers = map node_of (nodes_from (length numbers / 5) numbers 0)

-- Node n is an expression, or a statement.
abbrev pub has_sort : List Node → Bool → ℕ → Bool
has_sort nodes expression n = cond expression (is_expression (node_at nodes n)) (is_statement (node_at nodes n))

abbrev pub root_wrong : List Node → FunctionRecord → Bool
root_wrong nodes r = not (is_statement (node_at nodes r.root))

abbrev pub parts_wrong : List Node → Node → Bool
parts_wrong nodes node =
    any (λ n. not (is_expression (node_at nodes n))) (expression_parts node)
    || any (λ n. not (is_statement (node_at nodes n))) (statement_parts node)
