-- The numbers of honest supplied variables, and what writing them for some events asks and does.
use Rattle.std.specs.Prelude.{◌≡◌, ◌+◌, ◌<◌, ◌≤◌}
use Rattle.kit.specs.Names.{Bool, cond, List, map, ℕ, suc, length}
use Rattle.definitions.specs.ContractFile.{me_name, owned_by, node_count}
use Rattle.definitions.specs.Owners.{is_public}
use Rattle.definitions.specs.Rewriting.{Variable, supplied, read_from, guard, always}
use Rattle.memory_buffer.specs.Buffer.{stored}
use Rattle.file_accepted.specs.Context.{scope_in}
use Rattle.rewrite_events.specs.Events.{Events, variables_of, variable_count, supply_events, body_events, circuit_events}
use Rattle.rewrite_events.specs.Parts.{each_part}
use Rattle.rewrite_plans.specs.Plans.{node_expression}
use Rattle.honest_values.specs.Values.{value_of}

-- One more than the value of a supplied variable where the branch is taken, and 0 for any other.
unfoldable pub supplied_number : List ℕ → List ℕ → ℕ → Bool → List ℕ → Variable → ℕ
supplied_number file arguments caller live numbers (supplied o e) = cond live (suc (value_of file arguments caller numbers e)) 0
supplied_number file arguments caller live numbers (read_from o e) = 0
supplied_number file arguments caller live numbers guard = 0

-- The events of node n: of its body's form, of supplying it, of its circuit, and of its parts in either.
module _ (file : List ℕ) (function_start n : ℕ) where
  abbrev pub body_in : Events
  body_in = body_events (scope_in file function_start) always (node_expression file n)

  abbrev pub circuit_in : Events
  circuit_in = circuit_events (scope_in file function_start) always (node_expression file n)

  -- Whom a variable is supplied for does not change its number.
  abbrev pub supply_in : Events
  supply_in = supply_events always (owned_by me_name) (node_expression file n) circuit_in

  -- Of putting it into a place, by whether that is private.
  abbrev pub placed_in : Bool → Events
  placed_in private = cond private (cond (is_public (scope_in file function_start) (node_expression file n)) supply_in body_in) body_in

  abbrev pub body_parts_in : Events
  body_parts_in = each_part (body_events (scope_in file function_start) always) (node_expression file n)

  abbrev pub circuit_parts_in : Events
  circuit_parts_in = each_part (circuit_events (scope_in file function_start) always) (node_expression file n)

pub record Room (out : List ℕ) (i : ℕ) (events : Events) : Type 0 where
  pub fits : i + variable_count (events i) ≤ length out

pub record Ready (file : List ℕ) (n : ℕ) (out : List ℕ) (i : ℕ) (events : Events) : Type 0 where
  pub inside : n < node_count file
  pub room : Room out i events

pub record Wrote (number : Variable → ℕ) (before after : List ℕ) (i next : ℕ) (events : Events) : Type 0 where
  pub same : after ≡ stored before i (map number (variables_of (events i)))
  pub end : next ≡ i + variable_count (events i)
