-- The events of expressions hold no end; those of a statement that holds no other have theirs last.
use Rattle.std.specs.Prelude.{◌≡◌, ◌&&◌, ◌∷◌, ◌++◌, ◌+◌}
use Rattle.kit.specs.Names.{refl, ap, ◌∙◌, Bool, true, false, false≢true, cond, List, [], append-nil, none, ℕ, suc}
use Rattle.definitions.specs.ContractFile.{me_name, Owner, everyone, owned_by, Expression, Statement, Scope, field_at, is_division}
use Rattle.definitions.specs.Owners.{is_public, name_of, place_owner}
use Rattle.definitions.specs.Rewriting.{Guard}
use Rattle.rewrite_events.specs.Events.{Event, supplied_event, claimed_event, read_event, guard_event, end_event, variables_of, variable_count, Events, no_events, in_turn, supply_events, read_events, body_events, circuit_events, place_events, ended, statement_events}
use Rattle.rewrite_events.specs.Ends.{is_simple, simple_events, Unended}
use Rattle.rewrite_events.proofs.Appended.{variables_append}

pub simple_ended : (scope : Scope) (s : Statement) (g : Guard) → is_simple s ≡ true → statement_events scope s g ≡ ended (simple_events scope s g)
unfolding statement_events simple_events
simple_ended scope Statement.skip g h = refl
simple_ended scope (Statement.sequence first second) g h = absurd (false≢true h)
simple_ended scope (Statement.assign_field f value) g h = refl
simple_ended scope (Statement.assign_entry f key value) g h = refl
simple_ended scope (Statement.require condition) g h = refl
simple_ended scope (Statement.conditional condition then else) g h = absurd (false≢true h)

pub simple_variables : (scope : Scope) (s : Statement) (g : Guard) (i : ℕ) → is_simple s ≡ true
    → variables_of (statement_events scope s g i) ≡ variables_of (simple_events scope s g i)
unfolding ended variables_of
simple_variables scope s g i h =
    ap (λ (x : Events). variables_of (x i)) (simple_ended scope s g h) ∙ variables_append (simple_events scope s g i) _ ∙ append-nil _

both_unended : (first second : List Event) → Unended first → Unended second → Unended (first ++ second)
unfolding Unended
both_unended [] second h k = k
both_unended (supplied_event i o e ∷ first) second h k = both_unended first second h k
both_unended (claimed_event g i o e ∷ first) second h k = both_unended first second h k
both_unended (read_event s j o e ∷ first) second h k = both_unended first second h k
both_unended (guard_event i ∷ first) second h k = both_unended first second h k
both_unended (end_event i ∷ first) second h k = absurd h

nothing_unended : (i : ℕ) → Unended (no_events i)
unfolding no_events Unended
nothing_unended i = tt

turn_unended : (a b : Events) → ((i : ℕ) → Unended (a i)) → ((i : ℕ) → Unended (b i)) → (i : ℕ) → Unended (in_turn a b i)
unfolding in_turn
turn_unended a b h k i = both_unended (a i) (b (i + variable_count (a i))) (h i) (k (i + variable_count (a i)))

supply_unended : (g : Guard) (o : Owner) (e : Expression) (events : Events) → ((i : ℕ) → Unended (events i)) → (i : ℕ) → Unended (supply_events g o e events i)
unfolding supply_events Unended
supply_unended g o e events h i = both_unended (events (suc i)) (claimed_event g i o e ∷ []) (h (suc i)) tt

read_unended : (o : Owner) (e : Expression) (events : Events) → ((i : ℕ) → Unended (events i)) → (i : ℕ) → Unended (read_events o e events i)
unfolding read_events Unended
read_unended o e events h i = both_unended (events i) (read_event i (i + variable_count (events i)) o e ∷ []) (h i) tt

either_unended : (b : Bool) (x y : Events) → ((i : ℕ) → Unended (x i)) → ((i : ℕ) → Unended (y i)) → (i : ℕ) → Unended (cond b x y i)
either_unended true x y h k i = h i
either_unended false x y h k i = k i

module _ (scope : Scope) (g : Guard) where
  mutual
    unfolding body_events circuit_events

    pub body_unended : (e : Expression) (i : ℕ) → Unended (body_events scope g e i)
    body_unended (Expression.constant t v) = nothing_unended
    body_unended Expression.me = nothing_unended
    body_unended (Expression.field f) = nothing_unended
    body_unended (Expression.entry f key) = body_unended key
    body_unended (Expression.parameter k) = nothing_unended
    body_unended (Expression.operator o left right) =
        let bodies = turn_unended _ _ (body_unended left) (body_unended right) in
        either_unended (is_public scope (Expression.operator o left right)) _ _ bodies
        (supply_unended g (owned_by me_name) _ _
        (either_unended (is_public scope (Expression.operator o left right) && is_division o) _ _ (read_unended everyone _ _ bodies)
        (turn_unended _ _ (circuit_unended left) (circuit_unended right))))
    body_unended (Expression.negation part) =
        either_unended (is_public scope (Expression.negation part)) _ _ (body_unended part)
        (supply_unended g (owned_by me_name) _ _ (circuit_unended part))
    body_unended (Expression.reveal part o) = supply_unended g o _ _ (circuit_unended part)

    circuit_unended : (e : Expression) (i : ℕ) → Unended (circuit_events scope g e i)
    circuit_unended (Expression.constant t v) = nothing_unended
    circuit_unended Expression.me = nothing_unended
    circuit_unended (Expression.field f) = read_unended _ (Expression.field f) _ nothing_unended
    circuit_unended (Expression.entry f key) = read_unended _ (Expression.entry f key) _ (body_unended key)
    circuit_unended (Expression.parameter k) = read_unended _ (Expression.parameter k) _ nothing_unended
    circuit_unended (Expression.operator o left right) =
        either_unended (is_public scope (Expression.operator o left right) && is_division o) _ _
        (read_unended everyone _ _ (turn_unended _ _ (body_unended left) (body_unended right)))
        (turn_unended _ _ (circuit_unended left) (circuit_unended right))
    circuit_unended (Expression.negation part) = circuit_unended part
    circuit_unended (Expression.reveal part o) = circuit_unended part

  place_unended : (o : Owner) (e : Expression) (i : ℕ) → Unended (place_events scope g o e i)
  place_unended everyone e = body_unended e
  place_unended (owned_by n) e = either_unended (is_public scope e) _ _ (supply_unended g (owned_by n) e _ (circuit_unended e)) (body_unended e)

  pub simple_unended : (s : Statement) (i : ℕ) → Unended (simple_events scope s g i)
  unfolding simple_events
  simple_unended Statement.skip = nothing_unended
  simple_unended (Statement.sequence first second) = nothing_unended
  simple_unended (Statement.assign_field f value) = place_unended (place_owner (field_at scope.fields f).owner none) value
  simple_unended (Statement.assign_entry f key value) =
      turn_unended _ _ (body_unended key) (place_unended (place_owner (field_at scope.fields f).owner (name_of scope key)) value)
  simple_unended (Statement.require condition) = body_unended condition
  simple_unended (Statement.conditional condition then else) = nothing_unended
