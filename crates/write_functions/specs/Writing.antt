-- 01, Rewriting: one function written, its circuits and body as nodes and its heading as bytes: what the code needs and owes.
use Rattle.std.specs.Prelude.{◌≡◌, ◌+◌, ◌*◌, ◌≤◌}
use Rattle.kit.specs.Names.{List, ℕ, length, take}
use Rattle.definitions.specs.Basics.{flat_map}
use Rattle.definitions.specs.ContractFile.{node_count}
use Rattle.definitions.specs.Rewriting.{Constraint, Tree, claim_trees, function_trees, sizes, numbered_all, node_bytes, constraint_bytes}
use Rattle.definitions.specs.Rewriting.{function_bytes}
use Rattle.theory_crossings.specs.Crossings.{crossings}
use Rattle.memory_buffer.specs.Buffer.{stored}
use Rattle.file_accepted.specs.Context.{nodes_in, scope_in}
use Rattle.rewrite_events.specs.Events.{variable_count, constraints_of}
use Rattle.rewrite_log.specs.Entries.{Entries}
use Rattle.write_circuits.specs.Circuits.{sixes_from}
use Rattle.write_room.specs.Rooms.{most_bytes, most_headings}
use Rattle.write_function_room.specs.Functions.{written_in, private_in, events_in, FunctionRoom}
use Rattle.write_functions.specs.declared.Parts.{Parts}
use Rattle.write_functions.specs.declared.Finished.{Finished}

-- The constraints of a function's body, and their circuits.
abbrev pub constraints_in : List ℕ → ℕ → List Constraint
constraints_in file at = constraints_of (scope_in file at) (events_in file at)

abbrev pub circuits_in : List ℕ → ℕ → List Tree
circuits_in file at = flat_map (λ c. claim_trees c.claim) (constraints_in file at)

-- A log holds the body's events, and numbers hold its constraints, whose first node has number `base`.
pub record Told (file : List ℕ) (at base : ℕ) (log numbers : List ℕ) (r : Parts) : Type 0 where
  pub private : r.private ≡ private_in file at
  pub made : r.made ≡ variable_count (events_in file at)
  pub logged : r.logged ≤ length log
  pub entries : Entries (nodes_in file) (events_in file at) (take r.logged log)
  pub claims : r.claims ≡ length (constraints_in file at)
  pub fours : 4 * r.claims ≤ length numbers
  pub bytes : sixes_from numbers 0 r.claims ≡ constraint_bytes base (constraints_in file at)

pub record CircuitsReady (file : List ℕ) (at : ℕ) (log numbers out : List ℕ) (base : ℕ) : Type 0 where
  pub from : ℕ
  pub room : FunctionRoom file at from base
  pub log_space : 10 * node_count file ≤ length log
  pub number_space : 4 * node_count file ≤ length numbers
  pub node_space : most_bytes file ≤ length out

pub record CircuitsWritten (file : List ℕ) (at : ℕ) (log numbers out after : List ℕ) (base : ℕ) (r : Parts) : Type 0 where
  pub told : Told file at base log numbers r
  pub contents : after ≡ stored out (8 * base) (flat_map node_bytes (numbered_all base (circuits_in file at)))
  pub nodes : r.nodes ≡ sizes (circuits_in file at)

pub record HeadingReady (file : List ℕ) (at : ℕ) (log numbers headings : List ℕ) (from : ℕ) (parts : Parts) (base total : ℕ) : Type 0 where
  pub room : FunctionRoom file at from base
  pub told : Told file at base log numbers parts
  pub whole : total ≡ sizes (function_trees (written_in file at))
  pub heading_space : most_headings file ≤ length headings

pub record FunctionReady (file : List ℕ) (at : ℕ) (log roots numbers headings : List ℕ) (from : ℕ)
    (nodes : List ℕ) (base : ℕ) : Type 0 where
  pub room : FunctionRoom file at from base
  pub log_space : 10 * node_count file ≤ length log
  pub root_space : 3 * node_count file + 16 ≤ 2 * length roots
  pub number_space : 4 * node_count file ≤ length numbers
  pub heading_space : most_headings file ≤ length headings
  pub node_space : most_bytes file ≤ length nodes

pub record FunctionWritten (file : List ℕ) (at : ℕ) (headings headings_after : List ℕ) (from : ℕ) (nodes nodes_after : List ℕ)
    (base : ℕ) (r : Finished) : Type 0 where
  pub heading : headings_after ≡ stored headings from (function_bytes base (written_in file at))
  pub end : r.extent.end ≡ from + length (function_bytes base (written_in file at))
  pub contents : nodes_after ≡ stored nodes (8 * base) (flat_map node_bytes (numbered_all base (function_trees (written_in file at))))
  pub count : r.extent.nodes ≡ sizes (function_trees (written_in file at))
  pub crossings : r.crossings ≡ crossings (written_in file at)
