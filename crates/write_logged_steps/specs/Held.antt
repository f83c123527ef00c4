-- A log that holds numbers from a place on, and read events whose values can be written.
use Rattle.std.specs.Prelude.{◌≡◌, ◌∷◌, ◌++◌, ◌+◌, ◌≤◌}
use Rattle.kit.specs.Names.{List, [], ℕ, length}
use Rattle.definitions.specs.ContractFile.{Scope, Node}
use Rattle.rewrite_events.specs.Events.{Event, supplied_event, claimed_event, read_event, guard_event, end_event}
use Rattle.rewrite_log.specs.Entries.{Entries}
use Rattle.write_variable_counts.specs.Counts.{body_count}

pub record Holds (log numbers : List ℕ) (from : ℕ) : Type 0 where
  pub front : List ℕ
  pub back : List ℕ
  pub split : log ≡ front ++ (numbers ++ back)
  pub place : from ≡ length front

-- A log that holds events from a place on.
pub record HoldsEvents (nodes : List Node) (log : List ℕ) (from : ℕ) (events : List Event) : Type 0 where
  pub numbers : List ℕ
  pub entries : Entries nodes events numbers
  pub holds : Holds log numbers from

-- The variables of what is read have numbers up to a limit.
unfoldable pub ReadsWithin : Scope → ℕ → List Event → Type 0
ReadsWithin scope limit [] = Unit {0}
ReadsWithin scope limit (supplied_event i o e ∷ events) = ReadsWithin scope limit events
ReadsWithin scope limit (claimed_event g i o e ∷ events) = ReadsWithin scope limit events
ReadsWithin scope limit (read_event s j o e ∷ events) = (s + body_count scope e ≤ limit) × ReadsWithin scope limit events
ReadsWithin scope limit (guard_event i ∷ events) = ReadsWithin scope limit events
ReadsWithin scope limit (end_event i ∷ events) = ReadsWithin scope limit events
