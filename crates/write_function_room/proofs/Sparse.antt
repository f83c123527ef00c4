-- A statement makes at most three variables for each two of its nodes.
use Rattle.std.specs.Prelude.{◌&&◌, ◌∷◌, ◌+◌, ◌*◌, ◌≤◌}
use Rattle.kit.specs.Names.{Bool, true, false, cond, [], none, ℕ, suc, arith, length-append}
use Rattle.definitions.specs.ContractFile.{me_name, Owner, everyone, owned_by, Expression, Statement, Scope, field_at, is_division}
use Rattle.definitions.specs.Owners.{name_of, place_owner, is_public}
use Rattle.definitions.specs.Rewriting.{Guard, under}
use Rattle.rewrite_events.specs.Events.{claimed_event, read_event, end_event, variables_of, variable_count, Events, no_events, in_turn, supply_events, read_events, body_events, circuit_events, place_events, ended, branch_events, statement_events}
use Rattle.theory_trees.specs.Sizes.{expression_size, statement_size}
use Rattle.rewrite_events.proofs.Appended.{variables_append}

-- At most half of n variables, whatever the number of the first is.
record Makes (n : ℕ) (events : Events) : Type 0 where
  at_most : (i : ℕ) → 2 * variable_count (events i) ≤ n

nothing_makes : (n : ℕ) → Makes n no_events
unfolding no_events variables_of
nothing_makes n = record { at_most = λ i. omega arith }

more_makes : (n m : ℕ) (events : Events) → m ≤ n → Makes m events → Makes n events
more_makes n m events le h = record { at_most = λ i. omega (arith, h.at_most i) }

turn_makes : (n m k : ℕ) (a b : Events) → m + k ≤ n → Makes m a → Makes k b → Makes n (in_turn a b)
unfolding in_turn
turn_makes n m k a b le h x =
    record {
      at_most = λ i.
          let second = b (i + variable_count (a i)) in
          rw (variables_append (a i) second)
          (omega (arith, h.at_most i, x.at_most (i + variable_count (a i)), length-append (variables_of (a i)) (variables_of second)));
    }

supply_makes : (n m : ℕ) (g : Guard) (o : Owner) (e : Expression) (events : Events) → m + 2 ≤ n → Makes m events → Makes n (supply_events g o e events)
unfolding supply_events variables_of
supply_makes n m g o e events le h =
    record {
      at_most = λ i.
          let claimed = claimed_event g i o e ∷ [] in
          rw (variables_append (events (suc i)) claimed)
          (omega (arith, h.at_most (suc i), length-append (variables_of (events (suc i))) []));
    }

read_makes : (n m : ℕ) (o : Owner) (e : Expression) (events : Events) → m + 2 ≤ n → Makes m events → Makes n (read_events o e events)
unfolding read_events variables_of
read_makes n m o e events le h =
    record {
      at_most = λ i.
          let read = read_event i (i + variable_count (events i)) o e ∷ [] in
          rw (variables_append (events i) read)
          (omega (arith, h.at_most i, length-append (variables_of (events i)) (variables_of read)));
    }

ended_makes : (n : ℕ) (events : Events) → Makes n events → Makes n (ended events)
unfolding ended variables_of
ended_makes n events h =
    record {
      at_most = λ i.
          rw (variables_append (events i) (end_event (i + variable_count (events i)) ∷ []))
          (omega (arith, h.at_most i, length-append (variables_of (events i)) []));
    }

either_makes : (n : ℕ) (b : Bool) (x y : Events) → Makes n x → Makes n y → Makes n (cond b x y)
either_makes n true x y h k = h
either_makes n false x y h k = k

-- What is supplied is not public, so that no operator of it is read.
supplied_makes : (n m : ℕ) (public division : Bool) (g : Guard) (o : Owner) (e : Expression) (bodies read circuits : Events) → m + 2 ≤ n → Makes m bodies → Makes m circuits
    → Makes n (cond public bodies (supply_events g o e (cond (public && division) read circuits)))
supplied_makes n m true division g o e bodies read circuits le h k = more_makes n m bodies (omega arith) h
supplied_makes n m false division g o e bodies read circuits le h k = supply_makes n m g o e circuits le k

branch_makes : (n m : ℕ) (inside : Guard → Events) → m + 2 ≤ n → ((g : Guard) → Makes m (inside g)) → Makes n (branch_events inside)
unfolding branch_events variables_of
branch_makes n m inside le h = record { at_most = λ i. omega (arith, (h (under i)).at_most (suc i)) }

module _ (scope : Scope) (g : Guard) where
  mutual
    unfolding body_events circuit_events expression_size

    body_makes : (e : Expression) → Makes (2 * expression_size e) (body_events scope g e)
    body_makes (Expression.constant t v) = nothing_makes _
    body_makes Expression.me = nothing_makes _
    body_makes (Expression.field f) = nothing_makes _
    body_makes (Expression.entry f key) = more_makes _ (2 * expression_size key) _ (omega arith) (body_makes key)
    body_makes (Expression.parameter k) = nothing_makes _
    body_makes (Expression.operator o left right) =
        let parts = 2 * (expression_size left + expression_size right) in
        supplied_makes _ parts (is_public scope (Expression.operator o left right)) (is_division o) g (owned_by me_name) _ _ _ _ (omega arith)
        (turn_makes parts (2 * expression_size left) (2 * expression_size right) _ _ (omega arith) (body_makes left) (body_makes right))
        (turn_makes parts (2 * expression_size left) (2 * expression_size right) _ _ (omega arith) (circuit_makes left) (circuit_makes right))
    body_makes (Expression.negation part) =
        either_makes _ (is_public scope (Expression.negation part)) _ _ (more_makes _ (2 * expression_size part) _ (omega arith) (body_makes part))
        (supply_makes _ (2 * expression_size part) g (owned_by me_name) _ _ (omega arith) (circuit_makes part))
    body_makes (Expression.reveal part o) = supply_makes _ (2 * expression_size part) g o _ _ (omega arith) (circuit_makes part)

    circuit_makes : (e : Expression) → Makes (2 * expression_size e) (circuit_events scope g e)
    circuit_makes (Expression.constant t v) = nothing_makes _
    circuit_makes Expression.me = nothing_makes _
    circuit_makes (Expression.field f) = read_makes _ 0 _ (Expression.field f) _ (omega arith) (nothing_makes 0)
    circuit_makes (Expression.entry f key) = read_makes _ (2 * expression_size key) _ (Expression.entry f key) _ (omega arith) (body_makes key)
    circuit_makes (Expression.parameter k) = read_makes _ 0 _ (Expression.parameter k) _ (omega arith) (nothing_makes 0)
    circuit_makes (Expression.operator o left right) =
        let parts = 2 * (expression_size left + expression_size right) in
        either_makes _ (is_public scope (Expression.operator o left right) && is_division o) _ _
        (read_makes _ parts everyone _ _ (omega arith) (turn_makes parts (2 * expression_size left) (2 * expression_size right) _ _ (omega arith) (body_makes left) (body_makes right)))
        (turn_makes _ (2 * expression_size left) (2 * expression_size right) _ _ (omega arith) (circuit_makes left) (circuit_makes right))
    circuit_makes (Expression.negation part) = more_makes _ (2 * expression_size part) _ (omega arith) (circuit_makes part)
    circuit_makes (Expression.reveal part o) = more_makes _ (2 * expression_size part) _ (omega arith) (circuit_makes part)

  place_makes : (o : Owner) (e : Expression) → Makes (2 * expression_size e + 2) (place_events scope g o e)
  place_makes everyone e = more_makes _ (2 * expression_size e) _ (omega arith) (body_makes e)
  place_makes (owned_by n) e =
      either_makes _ (is_public scope e) _ _ (supply_makes _ (2 * expression_size e) g (owned_by n) e _ (omega arith) (circuit_makes e))
      (more_makes _ (2 * expression_size e) _ (omega arith) (body_makes e))

some_node : (e : Expression) → 1 ≤ expression_size e
unfolding expression_size
some_node (Expression.constant t v) = omega arith
some_node Expression.me = omega arith
some_node (Expression.field f) = omega arith
some_node (Expression.entry f key) = omega arith
some_node (Expression.parameter k) = omega arith
some_node (Expression.operator o left right) = omega arith
some_node (Expression.negation part) = omega arith
some_node (Expression.reveal part o) = omega arith

module _ (scope : Scope) where
  statement_makes : (s : Statement) (g : Guard) → Makes (3 * statement_size s) (statement_events scope s g)
  unfolding statement_events statement_size
  statement_makes Statement.skip g = ended_makes _ _ (nothing_makes _)
  statement_makes (Statement.sequence first second) g =
      turn_makes _ (3 * statement_size first) (3 * statement_size second) _ _ (omega arith) (statement_makes first g) (statement_makes second g)
  statement_makes (Statement.assign_field f value) g =
      ended_makes _ _ (more_makes _ (2 * expression_size value + 2) _ (omega arith) (place_makes scope g (place_owner (field_at scope.fields f).owner none) value))
  statement_makes (Statement.assign_entry f key value) g =
      ended_makes _ _ (turn_makes _ (2 * expression_size key) (2 * expression_size value + 2) _ _ (omega arith) (body_makes scope g key)
      (place_makes scope g (place_owner (field_at scope.fields f).owner (name_of scope key)) value))
  statement_makes (Statement.require condition) g = ended_makes _ _ (more_makes _ (2 * expression_size condition) _ (omega arith) (body_makes scope g condition))
  statement_makes (Statement.conditional condition then else) g =
      let some = some_node condition in
      turn_makes _ (2 * expression_size condition) (3 * (statement_size then + statement_size else) + 4) _ _ (omega arith) (ended_makes _ _ (body_makes scope g condition))
      (turn_makes _ (3 * statement_size then + 2) (3 * statement_size else + 2) _ _ (omega arith)
      (branch_makes _ (3 * statement_size then) _ (omega arith) (λ k. statement_makes then k)) (branch_makes _ (3 * statement_size else) _ (omega arith) (λ k. statement_makes else k)))

  pub variables_sparse : (s : Statement) (g : Guard) (i : ℕ) → 2 * variable_count (statement_events scope s g i) ≤ 3 * statement_size s
  variables_sparse s g i = (statement_makes s g).at_most i
