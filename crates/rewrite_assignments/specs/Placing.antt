-- The events of assignments and branches of a file's nodes, and what is owed of a value that is put into a place.
use Rattle.std.specs.Prelude.{◌≡◌, ◌<◌}
use Rattle.kit.specs.Names.{List, none, ℕ}
use Rattle.definitions.specs.ContractFile.{Owner, field_at, owner_code}
use Rattle.definitions.specs.Owners.{name_of, place_owner}
use Rattle.theory_trees.specs.Trees.{statement_in}
use Rattle.file_accepted.specs.Context.{nodes_in, fields_in, scope_in}
use Rattle.rewrite_events.specs.Events.{Events, in_turn, place_events, branch_events, statement_events}
use Rattle.rewrite_log.specs.declared.Position.{Position}
use Rattle.rewrite_log.specs.Entries.{guard_of}
use Rattle.rewrite_log.specs.Logs.{Logged}
use Rattle.rewrite_plans.specs.Plans.{node_expression}
use Rattle.rewrite_expressions.specs.Translations.{body_of, Ready}

module _ (file : List ℕ) (function_start guard : ℕ) where
  abbrev pub place_of : ℕ → Owner → Events
  place_of n o = place_events (scope_in file function_start) (guard_of guard) o (node_expression file n)

  abbrev pub assign_field_of : ℕ → ℕ → Events
  assign_field_of f value = place_of value (place_owner (field_at (fields_in file) f).owner none)

  abbrev pub assign_entry_of : ℕ → ℕ → ℕ → Events
  assign_entry_of f key value =
      in_turn (body_of file function_start guard key)
      (place_of value (place_owner (field_at (fields_in file) f).owner (name_of (scope_in file function_start) (node_expression file key))))

abbrev pub branch_of : List ℕ → ℕ → ℕ → Events
branch_of file function_start n = branch_events (statement_events (scope_in file function_start) (statement_in (nodes_in file) n))

-- A value that is put into a place, of whose owner the code alone is known.
pub record ReadyToPlace (file : List ℕ) (function_start n guard code : ℕ) (log : List ℕ) (p : Position) : Type 0 where
  pub owner : Owner
  pub is : owner_code owner ≡ code
  pub small : code < 256
  pub ready : Ready file n log p (place_of file function_start guard n owner)

pub record Placed (file : List ℕ) (function_start guard n code : ℕ) (before after : List ℕ) (p r : Position) : Type 0 where
  pub for : (o : Owner) → owner_code o ≡ code → Logged (nodes_in file) before after p r (place_of file function_start guard n o p.variable)

-- The start of a log, with the number of the first variable.
abbrev pub starting_at : ℕ → Position
starting_at first = record { at = 0; variable = first }
