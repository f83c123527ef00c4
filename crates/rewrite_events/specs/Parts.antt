-- The events of an expression told by one step: whether it is supplied or read, and the events of its parts.
use Rattle.std.specs.Prelude.{◌&&◌}
use Rattle.kit.specs.Names.{Bool, true, false, not}
use Rattle.definitions.specs.ContractFile.{me_name, Owner, owned_by, Expression, Scope, is_division}
use Rattle.definitions.specs.Owners.{is_public}
use Rattle.rewrite_events.specs.Events.{Events, no_events, in_turn}

module _ (scope : Scope) where
  -- In the body: "a reveal to all becomes a supplied variable .. A private operator or not is supplied .., a reveal as one of its target."
  unfoldable pub is_supplied : Expression → Bool
  is_supplied (Expression.constant t v) = false
  is_supplied Expression.me = false
  is_supplied (Expression.field f) = false
  is_supplied (Expression.entry f key) = false
  is_supplied (Expression.parameter k) = false
  is_supplied (Expression.operator o left right) = not (is_public scope (Expression.operator o left right))
  is_supplied (Expression.negation part) = not (is_public scope (Expression.negation part))
  is_supplied (Expression.reveal part o) = true

  -- In a circuit: "replaces a place, or a public / or %, by a read variable"
  unfoldable pub is_read : Expression → Bool
  is_read (Expression.constant t v) = false
  is_read Expression.me = false
  is_read (Expression.field f) = true
  is_read (Expression.entry f key) = true
  is_read (Expression.parameter k) = true
  is_read (Expression.operator o left right) = is_public scope (Expression.operator o left right) && is_division o
  is_read (Expression.negation part) = false
  is_read (Expression.reveal part o) = false

-- The owner that a supplied expression is supplied for: "a cell of owner 1, a reveal as one of its target".
unfoldable pub supplied_for : Expression → Owner
supplied_for (Expression.constant t v) = owned_by me_name
supplied_for Expression.me = owned_by me_name
supplied_for (Expression.field f) = owned_by me_name
supplied_for (Expression.entry f key) = owned_by me_name
supplied_for (Expression.parameter k) = owned_by me_name
supplied_for (Expression.operator o left right) = owned_by me_name
supplied_for (Expression.negation part) = owned_by me_name
supplied_for (Expression.reveal part o) = o

-- The events of the parts, each by the rule given.
unfoldable pub each_part : (Expression → Events) → Expression → Events
each_part rule (Expression.constant t v) = no_events
each_part rule Expression.me = no_events
each_part rule (Expression.field f) = no_events
each_part rule (Expression.entry f key) = rule key
each_part rule (Expression.parameter k) = no_events
each_part rule (Expression.operator o left right) = in_turn (rule left) (rule right)
each_part rule (Expression.negation part) = rule part
each_part rule (Expression.reveal part o) = rule part
