-- What the slices of a function's judging stand for.
use Rattle.std.specs.Prelude.{◌+◌, ◌/◌}
use Rattle.kit.specs.Names.{List, ℕ, length}
use Rattle.definitions.specs.ContractFile.{Node, Scope}
use Rattle.rules_scopes.specs.Trees.{nodes_in}
use Rattle.rules_scopes.specs.Scopes.{scope_from}
use Rattle.rules_scopes.specs.declared.FunctionSlices.{FunctionSlices}

abbrev pub scope_of : FunctionSlices → Scope
scope_of slices = scope_from slices.fields.now slices.parameters.now

abbrev pub nodes_of : FunctionSlices → List Node
nodes_of slices = nodes_in slices.nodes.now

abbrev pub node_count_of : FunctionSlices → ℕ
node_count_of slices = length slices.nodes.now / 5

-- How many numbers the contract's owners have: all, the caller, eight parameters and the fields.
abbrev pub owner_count_of : FunctionSlices → ℕ
owner_count_of slices = 10 + length slices.fields.now / 3
