-- The trees of the decoded nodes: n + 1 levels hold the whole of node n's.
use Rattle.std.specs.Prelude.{◌/◌}
use Rattle.kit.specs.Names.{List, map, ℕ, length}
use Rattle.definitions.specs.ContractFile.{Node, node_of}
use Rattle.file_decoded.specs.Slices.{nodes_from}

abbrev pub nodes_in : List ℕ → List Node
nodes_in nodes = map node_of (nodes_from (length nodes / 5) nodes 0)
