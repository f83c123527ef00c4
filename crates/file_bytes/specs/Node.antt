-- A node as code holds it, and the record of the definitions that it is.
use Rattle.std.specs.Prelude.{◌≡◌, ◌≤◌}
use Rattle.definitions.specs.ContractFile.{NodeRecord}
use Rattle.file_bytes.specs.declared.Node.{Node}

abbrev pub record_of : Node → NodeRecord
record_of n = record { kind = n.kind; arg = n.arg; first = n.first; second = n.second; third = n.third }

-- The node is the record, and its parts are numbers of one and of two bytes.
pub record IsNode (r : NodeRecord) (n : Node) : Type 0 where
  pub same : record_of n ≡ r
  pub small_kind : n.kind ≤ 255
  pub small_arg : n.arg ≤ 255
  pub small_first : n.first ≤ 65535
  pub small_second : n.second ≤ 65535
  pub small_third : n.third ≤ 65535
