-- A tree has at most two events for each of its nodes.
use Rattle.std.specs.Prelude.{◌&&◌, ◌∷◌, ◌+◌, ◌*◌, ◌≤◌}
use Rattle.kit.specs.Names.{Bool, true, false, cond, List, [], none, ℕ, suc, arith, length, length-append}
use Rattle.definitions.specs.ContractFile.{me_name, Owner, everyone, owned_by, Expression, Statement, Scope, field_at, is_division}
use Rattle.definitions.specs.Owners.{name_of, place_owner, is_public}
use Rattle.definitions.specs.Rewriting.{Guard, under}
use Rattle.rewrite_events.specs.Events.{Event, supplied_event, claimed_event, read_event, guard_event, end_event, variables_of, steps_of, variable_count, Events, no_events, in_turn, supply_events, read_events, body_events, circuit_events, place_events, ended, branch_events, statement_events}
use Rattle.theory_trees.specs.Sizes.{expression_size, statement_size}

-- Each variable has an event of its own.
pub variables_few : (events : List Event) → variable_count events ≤ length events
unfolding variables_of
variables_few [] = omega arith
variables_few (supplied_event i o e ∷ events) = omega (arith, variables_few events)
variables_few (claimed_event g i o e ∷ events) = omega (arith, variables_few events)
variables_few (read_event s j o e ∷ events) = omega (arith, variables_few events)
variables_few (guard_event i ∷ events) = omega (arith, variables_few events)
variables_few (end_event i ∷ events) = omega (arith, variables_few events)

-- Each step sets a variable.
pub steps_few : (scope : Scope) (events : List Event) → length (steps_of scope events) ≤ variable_count events
unfolding steps_of variables_of
steps_few scope [] = omega arith
steps_few scope (supplied_event i o e ∷ events) = omega (arith, steps_few scope events)
steps_few scope (claimed_event g i o e ∷ events) = omega (arith, steps_few scope events)
steps_few scope (read_event s j o e ∷ events) = omega (arith, steps_few scope events)
steps_few scope (guard_event i ∷ events) = omega (arith, steps_few scope events)
steps_few scope (end_event i ∷ events) = omega (arith, steps_few scope events)

-- At most n events, and as many places left, whatever the first variable is.
record Within (left n : ℕ) (events : Events) : Type 0 where
  holds : (i : ℕ) → length (events i) + left ≤ n

module _ (left n : ℕ) where
  nothing_within : left ≤ n → Within left n no_events
  unfolding no_events
  nothing_within le = record { holds = λ i. omega arith }

  larger_within : (l m : ℕ) (events : Events) → m + left ≤ n + l → Within l m events → Within left n events
  larger_within l m events le h = record { holds = λ i. omega (arith, h.holds i) }

  turn_within : (l m k p : ℕ) (a b : Events) → m + p + left ≤ n + l + k → Within l m a → Within k p b → Within left n (in_turn a b)
  unfolding in_turn
  turn_within l m k p a b le h x =
      record { holds = λ i. omega (arith, h.holds i, x.holds (i + variable_count (a i)), length-append (a i) (b (i + variable_count (a i)))) }

  supply_within : (l m : ℕ) (g : Guard) (o : Owner) (e : Expression) (events : Events) → m + 2 + left ≤ n + l → Within l m events → Within left n (supply_events g o e events)
  unfolding supply_events
  supply_within l m g o e events le h =
      record { holds = λ i. omega (arith, h.holds (suc i), length-append (events (suc i)) (claimed_event g i o e ∷ [])) }

  read_within : (l m : ℕ) (o : Owner) (e : Expression) (events : Events) → m + 1 + left ≤ n + l → Within l m events → Within left n (read_events o e events)
  unfolding read_events
  read_within l m o e events le h =
      record { holds = λ i. omega (arith, h.holds i, length-append (events i) (read_event i (i + variable_count (events i)) o e ∷ [])) }

  ended_within : (l m : ℕ) (events : Events) → m + 1 + left ≤ n + l → Within l m events → Within left n (ended events)
  unfolding ended
  ended_within l m events le h =
      record { holds = λ i. omega (arith, h.holds i, length-append (events i) (end_event (i + variable_count (events i)) ∷ [])) }

  either_within : (b : Bool) (x y : Events) → Within left n x → Within left n y → Within left n (cond b x y)
  either_within true x y h k = h
  either_within false x y h k = k

  branch_within : (m : ℕ) (inside : Guard → Events) → m + 1 + left ≤ n → ((g : Guard) → Within 0 m (inside g)) → Within left n (branch_events inside)
  unfolding branch_events
  branch_within m inside le h = record { holds = λ i. omega (arith, (h (under i)).holds (suc i)) }

module _ (scope : Scope) (g : Guard) where
  -- An expression leaves room for one event more: that of a condition's end, or of the claim on what is supplied for a place.
  mutual
    unfolding body_events circuit_events expression_size

    body_within : (e : Expression) → Within 1 (2 * expression_size e) (body_events scope g e)
    body_within (Expression.constant t v) = nothing_within _ _ (omega arith)
    body_within Expression.me = nothing_within _ _ (omega arith)
    body_within (Expression.field f) = nothing_within _ _ (omega arith)
    body_within (Expression.entry f key) = larger_within _ _ 1 (2 * expression_size key) _ (omega arith) (body_within key)
    body_within (Expression.parameter k) = nothing_within _ _ (omega arith)
    body_within (Expression.operator o left right) =
        let parts = 2 * (expression_size left + expression_size right) in
        let bodies = turn_within 2 parts 1 (2 * expression_size left) 1 (2 * expression_size right) _ _ (omega arith) (body_within left) (body_within right) in
        let circuits = turn_within 2 parts 1 (2 * expression_size left) 1 (2 * expression_size right) _ _ (omega arith) (circuit_within left) (circuit_within right) in
        either_within _ _ (is_public scope (Expression.operator o left right)) _ _ (larger_within _ _ 2 parts _ (omega arith) bodies)
        (supply_within _ _ 1 parts g (owned_by me_name) _ _ (omega arith)
        (either_within _ _ (is_public scope (Expression.operator o left right) && is_division o) _ _ (read_within 1 parts 2 parts everyone _ _ (omega arith) bodies)
        (larger_within _ _ 2 parts _ (omega arith) circuits)))
    body_within (Expression.negation part) =
        either_within _ _ (is_public scope (Expression.negation part)) _ _ (larger_within _ _ 1 (2 * expression_size part) _ (omega arith) (body_within part))
        (supply_within _ _ 1 (2 * expression_size part) g (owned_by me_name) _ _ (omega arith) (circuit_within part))
    body_within (Expression.reveal part o) = supply_within _ _ 1 (2 * expression_size part) g o _ _ (omega arith) (circuit_within part)

    circuit_within : (e : Expression) → Within 1 (2 * expression_size e) (circuit_events scope g e)
    circuit_within (Expression.constant t v) = nothing_within _ _ (omega arith)
    circuit_within Expression.me = nothing_within _ _ (omega arith)
    circuit_within (Expression.field f) = read_within _ _ 0 0 _ (Expression.field f) _ (omega arith) (nothing_within _ _ (omega arith))
    circuit_within (Expression.entry f key) = read_within _ _ 1 (2 * expression_size key) _ (Expression.entry f key) _ (omega arith) (body_within key)
    circuit_within (Expression.parameter k) = read_within _ _ 0 0 _ (Expression.parameter k) _ (omega arith) (nothing_within _ _ (omega arith))
    circuit_within (Expression.operator o left right) =
        let parts = 2 * (expression_size left + expression_size right) in
        either_within _ _ (is_public scope (Expression.operator o left right) && is_division o) _ _
        (read_within _ _ 2 parts everyone _ _ (omega arith)
        (turn_within 2 parts 1 (2 * expression_size left) 1 (2 * expression_size right) _ _ (omega arith) (body_within left) (body_within right)))
        (turn_within _ _ 1 (2 * expression_size left) 1 (2 * expression_size right) _ _ (omega arith) (circuit_within left) (circuit_within right))
    circuit_within (Expression.negation part) = larger_within _ _ 1 (2 * expression_size part) _ (omega arith) (circuit_within part)
    circuit_within (Expression.reveal part o) = larger_within _ _ 1 (2 * expression_size part) _ (omega arith) (circuit_within part)

  place_within : (o : Owner) (e : Expression) → Within 0 (2 * expression_size e + 1) (place_events scope g o e)
  place_within everyone e = larger_within _ _ 1 (2 * expression_size e) _ (omega arith) (body_within e)
  place_within (owned_by n) e =
      either_within _ _ (is_public scope e) _ _ (supply_within _ _ 1 (2 * expression_size e) g (owned_by n) e _ (omega arith) (circuit_within e))
      (larger_within _ _ 1 (2 * expression_size e) _ (omega arith) (body_within e))

module _ (scope : Scope) where
  statement_within : (s : Statement) (g : Guard) → Within 0 (2 * statement_size s) (statement_events scope s g)
  unfolding statement_events statement_size
  statement_within Statement.skip g = ended_within _ _ 0 0 _ (omega arith) (nothing_within _ _ (omega arith))
  statement_within (Statement.sequence first second) g =
      turn_within _ _ 0 (2 * statement_size first) 0 (2 * statement_size second) _ _ (omega arith) (statement_within first g) (statement_within second g)
  statement_within (Statement.assign_field f value) g =
      ended_within _ _ 0 (2 * expression_size value + 1) _ (omega arith) (place_within scope g (place_owner (field_at scope.fields f).owner none) value)
  statement_within (Statement.assign_entry f key value) g =
      ended_within _ _ 0 (2 * (expression_size key + expression_size value) + 1) _ (omega arith)
      (turn_within _ _ 1 (2 * expression_size key) 0 (2 * expression_size value + 1) _ _ (omega arith) (body_within scope g key)
      (place_within scope g (place_owner (field_at scope.fields f).owner (name_of scope key)) value))
  statement_within (Statement.require condition) g = ended_within _ _ 1 (2 * expression_size condition) _ (omega arith) (body_within scope g condition)
  statement_within (Statement.conditional condition then else) g =
      turn_within _ _ 0 (2 * expression_size condition) 0 (2 * (statement_size then + statement_size else) + 2) _ _ (omega arith)
      (ended_within _ _ 1 (2 * expression_size condition) _ (omega arith) (body_within scope g condition))
      (turn_within _ _ 0 (2 * statement_size then + 1) 0 (2 * statement_size else + 1) _ _ (omega arith)
      (branch_within _ _ (2 * statement_size then) _ (omega arith) (λ k. statement_within then k)) (branch_within _ _ (2 * statement_size else) _ (omega arith) (λ k. statement_within else k)))

  pub statement_length : (s : Statement) (g : Guard) (i : ℕ) → length (statement_events scope s g i) ≤ 2 * statement_size s
  statement_length s g i = omega (arith, (statement_within s g).holds i)
