-- What walking one function of a file needs.
use Rattle.std.specs.Prelude.{◌+◌, ◌*◌, ◌<◌, ◌≤◌}
use Rattle.kit.specs.Names.{List, ℕ, length, take}
use Rattle.definitions.specs.ContractFile.{field_count, node_count}
use Rattle.write_trees.specs.Table.{Readable}
use Rattle.write_room.specs.Rooms.{most_bytes}
use Rattle.write_function_room.specs.Functions.{FunctionRoom}

-- So many nodes and constraints are there, and code can read them.
pub record LastReady (nodes : List ℕ) (count : ℕ) (numbers : List ℕ) (constraints : ℕ) (file : List ℕ) : Type 0 where
  pub some : 0 < count
  pub bytes : 8 * count ≤ length nodes
  pub space : 4 * constraints ≤ length numbers
  pub readable : Readable (take (8 * count) nodes)
  pub few_fields : field_count file ≤ 64

-- A function that can be written, and the memory that suffices for it by the file's nodes.
pub record WalkReady (file : List ℕ) (function_start : ℕ) (log numbers roots nodes : List ℕ) : Type 0 where
  pub room : FunctionRoom file function_start 0 0
  pub log_space : 10 * node_count file ≤ length log
  pub numbers_space : 4 * node_count file + 32 ≤ length numbers
  pub roots_space : 3 * node_count file + 16 ≤ 2 * length roots
  pub nodes_space : most_bytes file ≤ length nodes
