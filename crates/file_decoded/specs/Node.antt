-- A node as code holds it, read from a slice of numbers of two bytes.
use Rattle.std.specs.Prelude.{◌≡◌, ◌≤◌}
use Rattle.definitions.specs.ContractFile.{NodeRecord}
use Rattle.file_bytes.specs.declared.Node.{Node}
use Rattle.file_bytes.specs.Node.{record_of}

pub record IsDecoded (r : NodeRecord) (n : Node) : Type 0 where
  pub same : record_of n ≡ r
  pub small_kind : n.kind ≤ 65535
  pub small_arg : n.arg ≤ 65535
  pub small_first : n.first ≤ 65535
  pub small_second : n.second ≤ 65535
  pub small_third : n.third ≤ 65535
