-- The bytes of written nodes, eight a node, as a table of nodes.
use Rattle.std.specs.Prelude.{◌/◌, ◌≤◌}
use Rattle.kit.specs.Names.{List, ℕ, length}
use Rattle.definitions.specs.ContractFile.{NodeRecord, node_records}
use Rattle.write_trees.specs.Trees.{Falling}

abbrev pub count_of : List ℕ → ℕ
count_of bytes = length bytes / 8

unfoldable pub table_of : List ℕ → List NodeRecord
table_of bytes = node_records (count_of bytes) bytes 0

-- What code that reads the nodes relies on: numbers of two bytes name them all, and a child's number is below its parent's.
pub record Readable (bytes : List ℕ) : Type 0 where
  pub few : count_of bytes ≤ 65536
  pub falling : Falling (table_of bytes)
