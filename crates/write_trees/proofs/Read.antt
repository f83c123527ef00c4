-- A node as code has read it is the table's.
use Rattle.std.specs.Prelude.{◌≡◌, ◌*◌, ◌<◌}
use Rattle.kit.specs.Names.{sym, ◌∙◌, List, ℕ}
use Rattle.definitions.specs.ContractFile.{node_record}
use Rattle.file_bytes.specs.Node.{IsNode, record_of}
use Rattle.file_bytes.specs.declared.Node.{Node}
use Rattle.write_trees.specs.Trees.{record_at}
use Rattle.write_trees.specs.Table.{count_of, table_of}
use Rattle.write_trees.proofs.Tables.{node_there}

pub read_here : (bytes : List ℕ) (n : ℕ) → n < count_of bytes → (node : Node) → IsNode (node_record bytes (8 * n)) node → record_at (table_of bytes) n ≡ record_of node
read_here bytes n there node h = node_there bytes n there ∙ sym h.same
