-- The numbers of all variables of a call: 0 for each read of a private parameter, and those of the body.
use Rattle.std.specs.Prelude.{◌≡◌, ◌++◌, ◌+◌, ◌<◌, ◌≤◌}
use Rattle.kit.specs.Names.{true, List, ℕ, length, take, replicate}
use Rattle.definitions.specs.ContractFile.{node_count}
use Rattle.file_accepted.specs.Functions.{root_at}
use Rattle.rewrite_events.specs.Events.{variable_count}
use Rattle.honest_statements.specs.Honest.{honest_numbers, node_statement}
use Rattle.write_function_room.specs.Functions.{events_in, private_in}

-- Those of the function that begins at a place, where the places hold these numbers.
unfoldable pub slots_of : List ℕ → ℕ → List ℕ → ℕ → List ℕ → List ℕ
slots_of file function_start arguments caller numbers =
    replicate (private_in file function_start) 0
    ++ honest_numbers file function_start arguments caller (node_statement file (root_at file function_start)) true numbers
    (private_in file function_start)

pub record SlotsRoom (file : List ℕ) (function_start : ℕ) (slots : List ℕ) : Type 0 where
  pub root : root_at file function_start < node_count file
  pub room : private_in file function_start + variable_count (events_in file function_start) ≤ length slots

pub record SlotsPut (file : List ℕ) (function_start : ℕ) (arguments : List ℕ) (caller : ℕ) (numbers before after : List ℕ)
    (r : ℕ) : Type 0 where
  pub slots : take r after ≡ slots_of file function_start arguments caller numbers
  pub count : r ≡ private_in file function_start + variable_count (events_in file function_start)
  pub size : length after ≡ length before
