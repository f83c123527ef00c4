-- The trees of an expression's rewritten form, given the number of its first variable.
use Rattle.kit.specs.Names.{Bool, cond, List, ℕ}
use Rattle.definitions.specs.ContractFile.{Expression, Scope}
use Rattle.definitions.specs.Owners.{owner_of}
use Rattle.definitions.specs.Rewriting.{in_body, in_circuit, Tree, body_tree, circuit_tree}
use Rattle.file_decoded.specs.Slices.{record_at}

abbrev pub body_form : Scope → Expression → ℕ → Tree
body_form scope e i = body_tree (in_body (owner_of scope) e i).form

abbrev pub circuit_form : Scope → Expression → ℕ → Tree
circuit_form scope e i = circuit_tree (in_circuit (owner_of scope) e i).form

-- "9 variable first, 10 variable first opened"
abbrev pub read_kind : Bool → ℕ
read_kind public = cond public 9 10

-- The kind of node n, where the nodes begin at a place.
abbrev pub kind_at : List ℕ → ℕ → ℕ
kind_at source n = (record_at source n).kind
