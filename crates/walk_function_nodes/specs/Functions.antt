-- What writing one function's nodes and constraints needs and owes.
use Rattle.std.specs.Prelude.{◌≡◌, ◌++◌, ◌+◌, ◌*◌, ◌≤◌}
use Rattle.kit.specs.Names.{List, [], ℕ, zero, suc, length}
use Rattle.definitions.specs.Basics.{flat_map}
use Rattle.definitions.specs.ContractFile.{node_count}
use Rattle.definitions.specs.Rewriting.{WrittenFunction, Tree, sizes, numbered_all, node_bytes, claim_trees, function_trees}
use Rattle.memory_buffer.specs.Buffer.{stored}
use Rattle.file_accepted.specs.Context.{nodes_in}
use Rattle.write_logged_steps.specs.Held.{HoldsEvents}
use Rattle.write_function_room.specs.Functions.{written_in, private_in, events_in, FunctionRoom}
use Rattle.write_circuits.specs.declared.Circuits.{Circuits}
use Rattle.write_circuits.specs.Circuits.{four}
use Rattle.write_trees.specs.Numbers.{constraint_numbers}
use Rattle.walk_function_nodes.specs.declared.Extent.{Extent}

-- The constraints of private parameters, whose variables have numbers from i on.
unfoldable pub opening_numbers : ℕ → ℕ → List ℕ
opening_numbers i zero = []
opening_numbers i (suc n) = four 0 i 1 65535 ++ opening_numbers (suc i) n

-- The trees of a function's circuits.
abbrev pub circuit_trees : WrittenFunction → List Tree
circuit_trees w = flat_map (λ c. claim_trees c.claim) w.constraints

-- The log holds the events of a function's body from its start on.
pub record FunctionLogged (file : List ℕ) (function_start : ℕ) (log : List ℕ) (entries private : ℕ) : Type 0 where
  pub room : FunctionRoom file function_start 0 0
  pub private_is : private ≡ private_in file function_start
  pub held : HoldsEvents (nodes_in file) log 0 (events_in file function_start)
  pub count : entries ≡ length (events_in file function_start)

pub record ConstraintsReady (file : List ℕ) (function_start : ℕ) (log : List ℕ) (entries private : ℕ)
    (numbers out : List ℕ) : Type 0 where
  pub logged : FunctionLogged file function_start log entries private
  pub space : 4 * node_count file + 32 ≤ length numbers
  pub bytes : 8 * sizes (function_trees (written_in file function_start)) ≤ length out

-- The constraints' numbers are stored in one buffer and their circuits' nodes in another, and they are so many behind the private ones.
pub record ConstraintsPut (w : WrittenFunction) (private : ℕ) (numbers numbers_after out after : List ℕ) (r : Circuits) : Type 0 where
  pub noted : numbers_after ≡ stored numbers 0 (constraint_numbers 0 w.constraints)
  pub contents : after ≡ stored out 0 (flat_map node_bytes (numbered_all 0 (circuit_trees w)))
  pub nodes : r.nodes ≡ sizes (circuit_trees w)
  pub count : private + r.count ≡ length w.constraints

pub record FunctionReady (file : List ℕ) (function_start : ℕ) (log : List ℕ) (entries private : ℕ)
    (numbers roots out : List ℕ) : Type 0 where
  pub constraints : ConstraintsReady file function_start log entries private numbers out
  pub roots_space : 3 * node_count file + 16 ≤ 2 * length roots

-- A function's nodes, numbered from 0, and its constraints' numbers, and how many they are.
pub record FunctionPut (w : WrittenFunction) (numbers numbers_after out after : List ℕ) (r : Extent) : Type 0 where
  pub noted : numbers_after ≡ stored numbers 0 (constraint_numbers 0 w.constraints)
  pub contents : after ≡ stored out 0 (flat_map node_bytes (numbered_all 0 (function_trees w)))
  pub nodes : r.nodes ≡ sizes (function_trees w)
  pub constraints : r.constraints ≡ length w.constraints
