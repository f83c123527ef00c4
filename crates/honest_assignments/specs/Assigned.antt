-- The events of an assignment by its nodes, and what writing their numbers asks.
use Rattle.std.specs.Prelude.{◌<◌, ◌≤◌}
use Rattle.kit.specs.Names.{List, none, ℕ}
use Rattle.definitions.specs.ContractFile.{field_at, node_count}
use Rattle.definitions.specs.Owners.{name_of, place_owner}
use Rattle.definitions.specs.Rewriting.{always}
use Rattle.file_accepted.specs.Context.{fields_in, scope_in}
use Rattle.rewrite_events.specs.Events.{Events, in_turn, place_events}
use Rattle.rewrite_plans.specs.Plans.{node_expression}
use Rattle.honest_supplies.specs.Supplies.{Room, body_in}

module _ (file : List ℕ) (function_start f : ℕ) where
  abbrev pub field_events : ℕ → Events
  field_events n =
      place_events (scope_in file function_start) always (place_owner (field_at (fields_in file) f).owner none) (node_expression file n)

  abbrev pub keyed_events : ℕ → ℕ → Events
  keyed_events key n =
      place_events (scope_in file function_start) always
      (place_owner (field_at (fields_in file) f).owner (name_of (scope_in file function_start) (node_expression file key)))
      (node_expression file n)

  abbrev pub entry_events : ℕ → ℕ → Events
  entry_events key n = in_turn (body_in file function_start key) (keyed_events key n)

pub record FieldReady (file : List ℕ) (function_start f n : ℕ) (out : List ℕ) (i : ℕ) : Type 0 where
  pub small_field : f ≤ 255
  pub inside : n < node_count file
  pub room : Room out i (field_events file function_start f n)

pub record EntryReady (file : List ℕ) (function_start f key n : ℕ) (out : List ℕ) (i : ℕ) : Type 0 where
  pub small_field : f ≤ 255
  pub key_inside : key < node_count file
  pub inside : n < node_count file
  pub room : Room out i (entry_events file function_start f key n)
