-- A function of a file as it is written, the events of its body, and the room that it needs.
use Rattle.std.specs.Prelude.{◌+◌, ◌*◌, ◌<◌, ◌≤◌}
use Rattle.kit.specs.Names.{List, ℕ, length, take}
use Rattle.definitions.specs.Basics.{flat_map}
use Rattle.definitions.specs.ContractFile.{Function, byte_at, field_count, node_count, sections_of, contract_of}
use Rattle.definitions.specs.Rewriting.{always, WrittenFunction, rewrite_function, rewrite, sizes, function_trees, function_bytes}
use Rattle.definitions.specs.Rewriting.{functions_bytes}
use Rattle.theory_trees.specs.Trees.{statement_in}
use Rattle.file_accepted.specs.Context.{Known, nodes_in, fields_in, parameters_in, scope_in}
use Rattle.file_accepted.specs.Functions.{root_at}
use Rattle.rewrite_events.specs.Events.{Event, variable_count, steps_of, constraints_of, statement_events}
use Rattle.write_variables.specs.Variables.{owners_fit}
use Rattle.write_parameters.specs.Parameters.{private_count}
use Rattle.write_room.specs.Rooms.{most_bytes, most_headings}

-- The function that begins at a place of a file.
abbrev pub function_in : List ℕ → ℕ → Function
function_in file at = record { parameters = parameters_in file at; body = statement_in (nodes_in file) (root_at file at) }

abbrev pub written_in : List ℕ → ℕ → WrittenFunction
written_in file at = rewrite_function (fields_in file) (function_in file at)

abbrev pub private_in : List ℕ → ℕ → ℕ
private_in file at = private_count (byte_at file at) file (at + 1)

-- The events of its body, behind the reads of its private parameters.
abbrev pub events_in : List ℕ → ℕ → List Event
events_in file at = statement_events (scope_in file at) (statement_in (nodes_in file) (root_at file at)) always (private_in file at)

-- All functions as they are written, and what stands before function f: bytes of headings and nodes.
abbrev pub written_functions : List ℕ → List WrittenFunction
written_functions file = (rewrite (contract_of (sections_of file))).functions

abbrev pub headings_before : List ℕ → ℕ → ℕ
headings_before file f = 1 + 3 * field_count file + 1 + length (functions_bytes 0 (take f (written_functions file)))

abbrev pub nodes_before : List ℕ → ℕ → ℕ
nodes_before file f = sizes (flat_map function_trees (take f (written_functions file)))

-- The function that begins at a place can be written: its heading from a place of so many bytes on, its nodes from a number of as many
-- bytes on.
pub record FunctionRoom (file : List ℕ) (at from base : ℕ) : Type 0 where
  pub context : Known file at
  pub root : root_at file at < node_count file
  pub events : length (events_in file at) ≤ 1024
  pub events_by_nodes : length (events_in file at) ≤ 2 * node_count file
  pub steps : 2 * length (steps_of (scope_in file at) (events_in file at)) ≤ 3 * node_count file
  pub claims : length (constraints_of (scope_in file at) (events_in file at)) ≤ node_count file
  pub variables : private_in file at + variable_count (events_in file at) ≤ 1024
  pub owners : owners_fit (events_in file at)
  pub heading : from + length (function_bytes base (written_in file at)) ≤ 49152
  pub nodes : 8 * (base + sizes (function_trees (written_in file at))) ≤ 49152
  pub heading_by_parts : from + length (function_bytes base (written_in file at)) ≤ most_headings file
  pub nodes_by_parts : 8 * (base + sizes (function_trees (written_in file at))) ≤ most_bytes file
  pub parts_by_nodes : most_bytes file ≤ 5076 + 64 * node_count file
