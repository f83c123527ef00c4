-- How many bytes a file's parts are ever written in; a room that is never too short for them.
use Rattle.std.specs.Prelude.{◌≡◌, ◌+◌, ◌*◌, ◌≤◌}
use Rattle.kit.specs.Names.{List, ℕ, length}
use Rattle.definitions.specs.ContractFile.{field_count, function_count, node_count, sections_of, contract_of}
use Rattle.definitions.specs.Numbers.{check_number}
use Rattle.definitions.specs.Rewriting.{written_file}
use Rattle.write_room.specs.Sizes.{parameters_size}

abbrev pub parameter_count : List ℕ → ℕ
parameter_count file = parameters_size (contract_of (sections_of file)).functions

-- The whole file: a private parameter is opened by three nodes, a variable and a constraint, and a verify takes two nodes.
abbrev pub most_bytes : List ℕ → ℕ
most_bytes file = 4 + 3 * field_count file + 25 * function_count file + 35 * parameter_count file + 64 * node_count file

-- Its headings alone.
abbrev pub most_headings : List ℕ → ℕ
most_headings file = 2 + 3 * field_count file + 9 * function_count file + 11 * parameter_count file + 6 * node_count file

pub record Suffices (file : List ℕ) (room : ℕ) : Type 0 where
  pub fits : check_number file ≡ 0 → length (written_file file) ≤ room
