-- The events of a file's node, and what the functions that log them need and owe.
use Rattle.std.specs.Prelude.{◌≡◌, ◌<◌}
use Rattle.kit.specs.Names.{List, ℕ}
use Rattle.definitions.specs.ContractFile.{Owner, node_count, owner_code}
use Rattle.theory_trees.specs.Trees.{statement_in}
use Rattle.file_accepted.specs.Context.{nodes_in, scope_in}
use Rattle.rewrite_events.specs.Events.{Events, supply_events, body_events, circuit_events, statement_events}
use Rattle.rewrite_events.specs.Parts.{each_part}
use Rattle.rewrite_log.specs.declared.Position.{Position}
use Rattle.rewrite_log.specs.Entries.{guard_of}
use Rattle.rewrite_log.specs.Logs.{Room, Logged}
use Rattle.rewrite_plans.specs.Plans.{node_expression}

-- The events of node n of a file, in the function that begins at a place, under the guard of a number.
module _ (file : List ℕ) (function_start guard n : ℕ) where
  abbrev pub body_of : Events
  body_of = body_events (scope_in file function_start) (guard_of guard) (node_expression file n)

  abbrev pub circuit_of : Events
  circuit_of = circuit_events (scope_in file function_start) (guard_of guard) (node_expression file n)

  abbrev pub supply_of : Owner → Events
  supply_of o = supply_events (guard_of guard) o (node_expression file n) circuit_of

  abbrev pub body_parts_of : Events
  body_parts_of = each_part (body_events (scope_in file function_start) (guard_of guard)) (node_expression file n)

  abbrev pub circuit_parts_of : Events
  circuit_parts_of = each_part (circuit_events (scope_in file function_start) (guard_of guard)) (node_expression file n)

  abbrev pub statement_of : Events
  statement_of = statement_events (scope_in file function_start) (statement_in (nodes_in file) n) (guard_of guard)

-- What a function that logs events of node n may rely on.
pub record Ready (file : List ℕ) (n : ℕ) (log : List ℕ) (p : Position) (events : Events) : Type 0 where
  pub inside : n < node_count file
  pub room : Room log p (events p.variable)

-- The same for what is supplied, for an owner of whom the code alone is known.
pub record ReadyToSupply (file : List ℕ) (function_start n guard code : ℕ) (log : List ℕ) (p : Position) : Type 0 where
  pub owner : Owner
  pub is : owner_code owner ≡ code
  pub small : code < 256
  pub ready : Ready file n log p (supply_of file function_start guard n owner)

pub record Supplied (file : List ℕ) (function_start guard n code : ℕ) (before after : List ℕ) (p r : Position) : Type 0 where
  pub for : (o : Owner) → owner_code o ≡ code → Logged (nodes_in file) before after p r (supply_of file function_start guard n o p.variable)
