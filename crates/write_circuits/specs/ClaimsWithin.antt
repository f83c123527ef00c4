-- Claimed events whose circuits can be written.
use Rattle.std.specs.Prelude.{◌∷◌, ◌+◌, ◌≤◌}
use Rattle.kit.specs.Names.{List, [], ℕ, suc}
use Rattle.definitions.specs.ContractFile.{Scope}
use Rattle.rewrite_events.specs.Events.{Event, supplied_event, claimed_event, read_event, guard_event, end_event}
use Rattle.write_variable_counts.specs.Counts.{circuit_count}

-- The variables of the circuits have numbers up to a limit.
unfoldable pub ClaimsWithin : Scope → ℕ → List Event → Type 0
ClaimsWithin scope limit [] = Unit {0}
ClaimsWithin scope limit (supplied_event i o e ∷ events) = ClaimsWithin scope limit events
ClaimsWithin scope limit (claimed_event g i o e ∷ events) = (suc i + circuit_count scope e ≤ limit) × ClaimsWithin scope limit events
ClaimsWithin scope limit (read_event s j o e ∷ events) = ClaimsWithin scope limit events
ClaimsWithin scope limit (guard_event i ∷ events) = ClaimsWithin scope limit events
ClaimsWithin scope limit (end_event i ∷ events) = ClaimsWithin scope limit events
