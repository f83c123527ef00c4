-- Rewriting as a list of events: each variable as it is made, and each claim when its circuit is done.
use Rattle.std.specs.Prelude.{◌&&◌, ◌∷◌, ◌++◌, ◌+◌}
use Rattle.kit.specs.Names.{cond, List, [], none, ℕ, suc, length}
use Rattle.definitions.specs.ContractFile.{me_name, Owner, everyone, owned_by, Operator, Expression, Statement, Scope, field_at, is_division}
use Rattle.definitions.specs.Owners.{name_of, owner_of, place_owner, is_public}
use Rattle.definitions.specs.Rewriting.{Variable, supplied, read_from, guard, equals, Guard, under, Constraint, Step, in_body, in_circuit}

pub data Event : Type 0 where
  -- A variable is made, to be supplied for an owner and an expression.
  supplied_event : ℕ → Owner → Expression → Event
  -- The circuit of a supplied variable is done, and its claim is added under a guard.
  claimed_event : Guard → ℕ → Owner → Expression → Event
  -- A variable, the second number, is read from an expression of an owner, whose own parts have their variables from the first number on.
  read_event : ℕ → ℕ → Owner → Expression → Event
  -- A variable is a branch's guard.
  guard_event : ℕ → Event
  -- A statement that holds no other, or a condition, has no further events; the next variable has this number.
  end_event : ℕ → Event

-- What the events make.
unfoldable pub variables_of : List Event → List Variable
variables_of [] = []
variables_of (supplied_event i o e ∷ events) = supplied o e ∷ variables_of events
variables_of (claimed_event g i o e ∷ events) = variables_of events
variables_of (read_event s j o e ∷ events) = read_from o e ∷ variables_of events
variables_of (guard_event i ∷ events) = guard ∷ variables_of events
variables_of (end_event i ∷ events) = variables_of events

unfoldable pub steps_of : Scope → List Event → List Step
steps_of scope [] = []
steps_of scope (supplied_event i o e ∷ events) = steps_of scope events
steps_of scope (claimed_event g i o e ∷ events) = steps_of scope events
steps_of scope (read_event s j o e ∷ events) = record { variable = j; value = (in_body (owner_of scope) e s).form } ∷ steps_of scope events
steps_of scope (guard_event i ∷ events) = steps_of scope events
steps_of scope (end_event i ∷ events) = steps_of scope events

unfoldable pub constraints_of : Scope → List Event → List Constraint
constraints_of scope [] = []
constraints_of scope (supplied_event i o e ∷ events) = constraints_of scope events
constraints_of scope (claimed_event g i o e ∷ events) =
    record { guard = g; claim = equals i o (in_circuit (owner_of scope) e (suc i)).form } ∷ constraints_of scope events
constraints_of scope (read_event s j o e ∷ events) = constraints_of scope events
constraints_of scope (guard_event i ∷ events) = constraints_of scope events
constraints_of scope (end_event i ∷ events) = constraints_of scope events

abbrev pub variable_count : List Event → ℕ
variable_count events = length (variables_of events)

-- Events, given the number of the first variable.
abbrev pub Events : Type 0
Events = ℕ → List Event

unfoldable pub no_events : Events
no_events i = []

-- "Parts are worked out and rewritten first, second, third."
unfoldable pub in_turn : Events → Events → Events
in_turn first second i = first i ++ second (i + variable_count (first i))

-- "Supplying makes the variable, then turns its expression into circuit form, then adds a constraint."
unfoldable pub supply_events : Guard → Owner → Expression → Events → Events
supply_events g o e circuit i = supplied_event i o e ∷ (circuit (suc i) ++ (claimed_event g i o e ∷ []))

-- "The read's own key or operands follow the body rule, and come before its variable."
unfoldable pub read_events : Owner → Expression → Events → Events
read_events o e parts i = parts i ++ (read_event i (i + variable_count (parts i)) o e ∷ [])

module _ (scope : Scope) (g : Guard) where
  abbrev pub operator_events : Operator → Expression → Expression → Events → Events → Events → Events → Events
  operator_events o left right left_body right_body left_circuit right_circuit =
      let e = Expression.operator o left right in
      cond (is_public scope e && is_division o) (read_events everyone e (in_turn left_body right_body)) (in_turn left_circuit right_circuit)

  unfoldable mutual
    pub body_events : Expression → Events
    body_events (Expression.constant t v) = no_events
    body_events Expression.me = no_events
    body_events (Expression.field f) = no_events
    body_events (Expression.entry f key) = body_events key
    body_events (Expression.parameter k) = no_events
    body_events (Expression.operator o left right) =
        let e = Expression.operator o left right in
        cond (is_public scope e) (in_turn (body_events left) (body_events right))
        (supply_events g (owned_by me_name) e
        (operator_events o left right (body_events left) (body_events right) (circuit_events left) (circuit_events right)))
    body_events (Expression.negation part) =
        cond (is_public scope (Expression.negation part)) (body_events part)
        (supply_events g (owned_by me_name) (Expression.negation part) (circuit_events part))
    body_events (Expression.reveal part o) = supply_events g o (Expression.reveal part o) (circuit_events part)

    pub circuit_events : Expression → Events
    circuit_events (Expression.constant t v) = no_events
    circuit_events Expression.me = no_events
    circuit_events (Expression.field f) = read_events (owner_of scope (Expression.field f)) (Expression.field f) no_events
    circuit_events (Expression.entry f key) = read_events (owner_of scope (Expression.entry f key)) (Expression.entry f key) (body_events key)
    circuit_events (Expression.parameter k) = read_events (owner_of scope (Expression.parameter k)) (Expression.parameter k) no_events
    circuit_events (Expression.operator o left right) =
        operator_events o left right (body_events left) (body_events right) (circuit_events left) (circuit_events right)
    circuit_events (Expression.negation part) = circuit_events part
    circuit_events (Expression.reveal part o) = circuit_events part

  -- "A public value put into a private place is supplied as a cell of that place's owner code."
  abbrev pub place_events : Owner → Expression → Events
  place_events everyone e = body_events e
  place_events (owned_by n) e = cond (is_public scope e) (supply_events g (owned_by n) e (circuit_events e)) (body_events e)

-- Events, and the mark that they are all. It makes nothing: who writes the body finds by it which reads are steps of which statement.
unfoldable pub ended : Events → Events
ended events i = events i ++ (end_event (i + variable_count (events i)) ∷ [])

-- "Each branch begins by setting a guard variable of its own to true; constraints inside hold under the innermost guard."
unfoldable pub branch_events : (Guard → Events) → Events
branch_events inside i = guard_event i ∷ inside (under i) (suc i)

unfoldable pub statement_events : Scope → Statement → Guard → Events
statement_events scope Statement.skip g = ended no_events
statement_events scope (Statement.sequence first second) g = in_turn (statement_events scope first g) (statement_events scope second g)
statement_events scope (Statement.assign_field f value) g =
    ended (place_events scope g (place_owner (field_at scope.fields f).owner none) value)
statement_events scope (Statement.assign_entry f key value) g =
    ended (in_turn (body_events scope g key)
    (place_events scope g (place_owner (field_at scope.fields f).owner (name_of scope key)) value))
statement_events scope (Statement.require condition) g = ended (body_events scope g condition)
statement_events scope (Statement.conditional condition then else) g =
    in_turn (ended (body_events scope g condition))
    (in_turn (branch_events (statement_events scope then)) (branch_events (statement_events scope else)))
