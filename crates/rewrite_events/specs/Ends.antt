-- The events of a statement that holds no other: none but the last is an end.
use Rattle.std.specs.Prelude.{◌∷◌}
use Rattle.kit.specs.Names.{Bool, true, false, List, [], none}
use Rattle.definitions.specs.ContractFile.{Statement, Scope, field_at}
use Rattle.definitions.specs.Owners.{name_of, place_owner}
use Rattle.definitions.specs.Rewriting.{Guard}
use Rattle.rewrite_events.specs.Events.{Event, supplied_event, claimed_event, read_event, guard_event, end_event}
use Rattle.rewrite_events.specs.Events.{Events, no_events, in_turn, body_events, place_events}

abbrev pub is_simple : Statement → Bool
is_simple Statement.skip = true
is_simple (Statement.sequence first second) = false
is_simple (Statement.assign_field f value) = true
is_simple (Statement.assign_entry f key value) = true
is_simple (Statement.require condition) = true
is_simple (Statement.conditional condition then else) = false

-- Its events but for their end.
unfoldable pub simple_events : Scope → Statement → Guard → Events
simple_events scope Statement.skip g = no_events
simple_events scope (Statement.sequence first second) g = no_events
simple_events scope (Statement.assign_field f value) g = place_events scope g (place_owner (field_at scope.fields f).owner none) value
simple_events scope (Statement.assign_entry f key value) g =
    in_turn (body_events scope g key) (place_events scope g (place_owner (field_at scope.fields f).owner (name_of scope key)) value)
simple_events scope (Statement.require condition) g = body_events scope g condition
simple_events scope (Statement.conditional condition then else) g = no_events

unfoldable pub Unended : List Event → Type 0
Unended [] = Unit {0}
Unended (supplied_event i o e ∷ events) = Unended events
Unended (claimed_event g i o e ∷ events) = Unended events
Unended (read_event s j o e ∷ events) = Unended events
Unended (guard_event i ∷ events) = Unended events
Unended (end_event i ∷ events) = ⊥
