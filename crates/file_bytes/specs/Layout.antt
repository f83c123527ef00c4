-- What a layout says of its file, and how large its numbers can be.
use Rattle.std.specs.Prelude.{◌≡◌, ◌≤◌}
use Rattle.kit.specs.Names.{List, ℕ}
use Rattle.definitions.specs.ContractFile.{field_count, functions_at, function_count, nodes_at, node_count}
use Rattle.file_bytes.specs.declared.Layout.{Layout}

pub record IsLayout (file : List ℕ) (l : Layout) : Type 0 where
  pub fields : l.fields ≡ field_count file
  pub functions_start : l.functions_at ≡ functions_at file
  pub functions : l.functions ≡ function_count file
  pub nodes_start : l.nodes_at ≡ nodes_at file
  pub nodes : l.nodes ≡ node_count file
  pub few_fields : l.fields ≤ 255
  pub few_functions : l.functions ≤ 255
  pub near_nodes : l.nodes_at ≤ 200000
  pub few_nodes : l.nodes ≤ 65535
