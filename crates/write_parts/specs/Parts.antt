-- 01, Rewriting: the written file in two buffers: fields and functions' headings, and nodes.
use Rattle.std.specs.Prelude.{◌≡◌, ◌∷◌, ◌++◌, ◌+◌, ◌*◌, ◌≤◌}
use Rattle.kit.specs.Names.{List, map, ℕ, length, take}
use Rattle.definitions.specs.Basics.{flat_map}
use Rattle.definitions.specs.ContractFile.{field_count, function_count, node_count}
use Rattle.definitions.specs.Numbers.{check_number}
use Rattle.definitions.specs.Crossings.{sixteen}
use Rattle.definitions.specs.Rewriting.{function_trees, numbered_all, node_bytes, functions_bytes}
use Rattle.theory_crossings.specs.Crossings.{crossings}
use Rattle.file_accepted.specs.Functions.{function_start}
use Rattle.memory_buffer.specs.Buffer.{stored}
use Rattle.write_fields.specs.Fields.{field_section}
use Rattle.write_room.specs.Rooms.{most_bytes, most_headings}
use Rattle.write_function_room.specs.Functions.{written_functions, headings_before, nodes_before}
use Rattle.file_accepted.specs.Context.{Source}

-- The headings and the nodes of the first f functions.
abbrev pub headings_of : List ℕ → ℕ → List ℕ
headings_of file f = functions_bytes 0 (take f (written_functions file))

abbrev pub nodes_of : List ℕ → ℕ → List ℕ
nodes_of file f = flat_map node_bytes (numbered_all 0 (flat_map function_trees (take f (written_functions file))))

-- 02, Note 2: the crossings of each of the first f functions.
abbrev pub crossings_of : List ℕ → ℕ → List ℕ
crossings_of file f = map crossings (take f (written_functions file))

abbrev pub heading_part : List ℕ → List ℕ
heading_part file = field_section file ++ (function_count file ∷ headings_of file (function_count file))

abbrev pub node_part : List ℕ → List ℕ
node_part file = nodes_of file (function_count file)

-- An accepted file, and room for all that can be written of one.
pub record Ready (file headings nodes : List ℕ) : Type 0 where
  pub accepted : check_number file ≡ 0
  pub heading_space : most_headings file ≤ length headings
  pub node_space : most_bytes file ≤ length nodes

-- The first f functions stand in the buffers; the next one begins where they end.
pub record FunctionsPut (file : List ℕ) (f from : ℕ) (h₀ h n₀ n : List ℕ) (at base : ℕ) (counts : List ℕ) : Type 0 where
  pub headings : h ≡ stored h₀ from (headings_of file f)
  pub end : at ≡ headings_before file f
  pub nodes : n ≡ stored n₀ 0 (nodes_of file f)
  pub count : base ≡ nodes_before file f
  pub crossings : counts ≡ sixteen (crossings_of file f)

-- Both parts stand at the front of their buffers.
pub record PartsPut (file h₀ h n₀ n : List ℕ) (at base : ℕ) (counts : List ℕ) : Type 0 where
  pub headings : h ≡ stored h₀ 0 (heading_part file)
  pub end : at ≡ length (heading_part file)
  pub nodes : n ≡ stored n₀ 0 (node_part file)
  pub count : base ≡ nodes_before file (function_count file)
  pub crossings : counts ≡ sixteen (crossings_of file (function_count file))

-- Function 0 begins at a place, and its heading goes behind the fields and the count of functions.
pub record FunctionsReady (file : List ℕ) (first count : ℕ) (source : List ℕ) (from : ℕ) (headings nodes : List ℕ) : Type 0 where
  pub ready : Ready file headings nodes
  pub begins : first ≡ function_start file 0
  pub counted : count ≡ function_count file
  pub held : Source file source
  pub behind_fields : from ≡ 1 + 3 * field_count file + 1

-- Space that the writing of a function uses, by the file's nodes.
pub record Scratch (file log roots numbers : List ℕ) : Type 0 where
  pub log_space : 10 * node_count file ≤ length log
  pub root_space : 3 * node_count file + 16 ≤ 2 * length roots
  pub number_space : 4 * node_count file ≤ length numbers
