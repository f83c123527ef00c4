-- What the variables and claims of a statement take in a heading: three bytes for a variable and six for a claim, at most six for each node.
use Rattle.std.specs.Prelude.{◌≡◌, ◌&&◌, ◌∷◌, ◌++◌, ◌+◌, ◌*◌, ◌≤◌}
use Rattle.kit.specs.Names.{ap, ◌∙◌, Bool, true, false, cond, List, [], none, ℕ, suc, arith, length}
use Rattle.kit.specs.Names.{length-append}
use Rattle.definitions.specs.ContractFile.{me_name, Owner, everyone, owned_by, Expression, Statement, Scope, field_at, is_division}
use Rattle.definitions.specs.Owners.{name_of, place_owner, is_public}
use Rattle.definitions.specs.Rewriting.{Guard, under}
use Rattle.theory_trees.specs.Sizes.{expression_size, statement_size}
use Rattle.rewrite_events.specs.Events.{Event, claimed_event, read_event, end_event, variables_of, variable_count, constraints_of, Events, no_events, in_turn, supply_events, read_events, body_events, circuit_events, place_events, ended, branch_events, statement_events}
use Rattle.rewrite_events.proofs.Appended.{variable_count_append, constraints_append}

module _ (scope : Scope) where
  abbrev pub weight : List Event → ℕ
  weight events = 3 * variable_count events + 6 * length (constraints_of scope events)

  weight_append : (first second : List Event) → weight (first ++ second) ≡ weight first + weight second
  weight_append first second =
      let variables = variable_count_append first second in
      let claims = ap length (constraints_append scope first second) ∙ length-append (constraints_of scope first) (constraints_of scope second) in
      omega arith

  -- At most n bytes, and so many left, whatever the number of the first variable is.
  record Weighs (left n : ℕ) (events : Events) : Type 0 where
    at_most : (i : ℕ) → weight (events i) + left ≤ n

  module _ (left n : ℕ) where
    nothing_weighs : left ≤ n → Weighs left n no_events
    unfolding no_events variables_of constraints_of
    nothing_weighs le = record { at_most = λ i. omega arith }

    larger_weighs : (l m : ℕ) (events : Events) → m + left ≤ n + l → Weighs l m events → Weighs left n events
    larger_weighs l m events le h = record { at_most = λ i. omega (arith, h.at_most i) }

    turn_weighs : (l m k p : ℕ) (a b : Events) → m + p + left ≤ n + l + k → Weighs l m a → Weighs k p b → Weighs left n (in_turn a b)
    unfolding in_turn
    turn_weighs l m k p a b le h x =
        record { at_most = λ i. omega (arith, h.at_most i, x.at_most (i + variable_count (a i)), weight_append (a i) (b (i + variable_count (a i)))) }

    supply_weighs : (l m : ℕ) (g : Guard) (o : Owner) (e : Expression) (events : Events) → m + 9 + left ≤ n + l → Weighs l m events
        → Weighs left n (supply_events g o e events)
    unfolding supply_events variables_of constraints_of
    supply_weighs l m g o e events le h =
        record { at_most = λ i. omega (arith, h.at_most (suc i), weight_append (events (suc i)) (claimed_event g i o e ∷ [])) }

    read_weighs : (l m : ℕ) (o : Owner) (e : Expression) (events : Events) → m + 3 + left ≤ n + l → Weighs l m events → Weighs left n (read_events o e events)
    unfolding read_events variables_of constraints_of
    read_weighs l m o e events le h =
        record { at_most = λ i. omega (arith, h.at_most i, weight_append (events i) (read_event i (i + variable_count (events i)) o e ∷ [])) }

    ended_weighs : (l m : ℕ) (events : Events) → m + left ≤ n + l → Weighs l m events → Weighs left n (ended events)
    unfolding ended variables_of constraints_of
    ended_weighs l m events le h =
        record { at_most = λ i. omega (arith, h.at_most i, weight_append (events i) (end_event (i + variable_count (events i)) ∷ [])) }

    either_weighs : (b : Bool) (x y : Events) → Weighs left n x → Weighs left n y → Weighs left n (cond b x y)
    either_weighs true x y h k = h
    either_weighs false x y h k = k

    -- What is supplied is not public, so that no operator of it is read.
    supplied_weighs : (l m : ℕ) (public division : Bool) (g : Guard) (o : Owner) (e : Expression) (bodies read circuits : Events) → m + 9 + left ≤ n + l
        → Weighs left n bodies → Weighs l m circuits → Weighs left n (cond public bodies (supply_events g o e (cond (public && division) read circuits)))
    supplied_weighs l m true division g o e bodies read circuits le h k = h
    supplied_weighs l m false division g o e bodies read circuits le h k = supply_weighs l m g o e circuits le k

    branch_weighs : (m : ℕ) (inside : Guard → Events) → m + 3 + left ≤ n → ((g : Guard) → Weighs 0 m (inside g)) → Weighs left n (branch_events inside)
    unfolding branch_events variables_of constraints_of
    branch_weighs m inside le h = record { at_most = λ i. omega (arith, (h (under i)).at_most (suc i)) }

  module _ (g : Guard) where
    -- A circuit leaves room for a variable more.
    mutual
      unfolding body_events circuit_events expression_size

      body_weighs : (e : Expression) → Weighs 0 (6 * expression_size e) (body_events scope g e)
      body_weighs (Expression.constant t v) = nothing_weighs _ _ (omega arith)
      body_weighs Expression.me = nothing_weighs _ _ (omega arith)
      body_weighs (Expression.field f) = nothing_weighs _ _ (omega arith)
      body_weighs (Expression.entry f key) = larger_weighs _ _ 0 (6 * expression_size key) _ (omega arith) (body_weighs key)
      body_weighs (Expression.parameter k) = nothing_weighs _ _ (omega arith)
      body_weighs (Expression.operator o left right) =
          let parts = 6 * (expression_size left + expression_size right) in
          supplied_weighs _ _ 6 parts (is_public scope (Expression.operator o left right)) (is_division o) g (owned_by me_name) _ _ _ _ (omega arith)
          (turn_weighs _ _ 0 (6 * expression_size left) 0 (6 * expression_size right) _ _ (omega arith) (body_weighs left) (body_weighs right))
          (turn_weighs 6 parts 3 (6 * expression_size left) 3 (6 * expression_size right) _ _ (omega arith) (circuit_weighs left) (circuit_weighs right))
      body_weighs (Expression.negation part) =
          either_weighs _ _ (is_public scope (Expression.negation part)) _ _ (larger_weighs _ _ 0 (6 * expression_size part) _ (omega arith) (body_weighs part))
          (supply_weighs _ _ 3 (6 * expression_size part) g (owned_by me_name) _ _ (omega arith) (circuit_weighs part))
      body_weighs (Expression.reveal part o) = supply_weighs _ _ 3 (6 * expression_size part) g o _ _ (omega arith) (circuit_weighs part)

      circuit_weighs : (e : Expression) → Weighs 3 (6 * expression_size e) (circuit_events scope g e)
      circuit_weighs (Expression.constant t v) = nothing_weighs _ _ (omega arith)
      circuit_weighs Expression.me = nothing_weighs _ _ (omega arith)
      circuit_weighs (Expression.field f) = read_weighs _ _ 0 0 _ (Expression.field f) _ (omega arith) (nothing_weighs 0 0 (omega arith))
      circuit_weighs (Expression.entry f key) = read_weighs _ _ 0 (6 * expression_size key) _ (Expression.entry f key) _ (omega arith) (body_weighs key)
      circuit_weighs (Expression.parameter k) = read_weighs _ _ 0 0 _ (Expression.parameter k) _ (omega arith) (nothing_weighs 0 0 (omega arith))
      circuit_weighs (Expression.operator o left right) =
          let parts = 6 * (expression_size left + expression_size right) in
          either_weighs _ _ (is_public scope (Expression.operator o left right) && is_division o) _ _
          (read_weighs _ _ 0 parts everyone _ _ (omega arith)
          (turn_weighs 0 parts 0 (6 * expression_size left) 0 (6 * expression_size right) _ _ (omega arith) (body_weighs left) (body_weighs right)))
          (turn_weighs _ _ 3 (6 * expression_size left) 3 (6 * expression_size right) _ _ (omega arith) (circuit_weighs left) (circuit_weighs right))
      circuit_weighs (Expression.negation part) = larger_weighs _ _ 3 (6 * expression_size part) _ (omega arith) (circuit_weighs part)
      circuit_weighs (Expression.reveal part o) = larger_weighs _ _ 3 (6 * expression_size part) _ (omega arith) (circuit_weighs part)

    place_weighs : (o : Owner) (e : Expression) → Weighs 0 (6 * expression_size e + 6) (place_events scope g o e)
    place_weighs everyone e = larger_weighs _ _ 0 (6 * expression_size e) _ (omega arith) (body_weighs e)
    place_weighs (owned_by n) e =
        either_weighs _ _ (is_public scope e) _ _ (supply_weighs _ _ 3 (6 * expression_size e) g (owned_by n) e _ (omega arith) (circuit_weighs e))
        (larger_weighs _ _ 0 (6 * expression_size e) _ (omega arith) (body_weighs e))

  statement_weighs : (s : Statement) (g : Guard) → Weighs 0 (6 * statement_size s) (statement_events scope s g)
  unfolding statement_events statement_size
  statement_weighs Statement.skip g = ended_weighs _ _ 0 0 _ (omega arith) (nothing_weighs _ _ (omega arith))
  statement_weighs (Statement.sequence first second) g =
      turn_weighs _ _ 0 (6 * statement_size first) 0 (6 * statement_size second) _ _ (omega arith) (statement_weighs first g) (statement_weighs second g)
  statement_weighs (Statement.assign_field f value) g =
      ended_weighs _ _ 0 (6 * expression_size value + 6) _ (omega arith) (place_weighs g (place_owner (field_at scope.fields f).owner none) value)
  statement_weighs (Statement.assign_entry f key value) g =
      ended_weighs _ _ 0 (6 * (expression_size key + expression_size value) + 6) _ (omega arith)
      (turn_weighs _ _ 0 (6 * expression_size key) 0 (6 * expression_size value + 6) _ _ (omega arith) (body_weighs g key)
      (place_weighs g (place_owner (field_at scope.fields f).owner (name_of scope key)) value))
  statement_weighs (Statement.require condition) g = ended_weighs _ _ 0 (6 * expression_size condition) _ (omega arith) (body_weighs g condition)
  statement_weighs (Statement.conditional condition then else) g =
      turn_weighs _ _ 0 (6 * expression_size condition) 0 (6 * (statement_size then + statement_size else) + 6) _ _ (omega arith)
      (ended_weighs _ _ 0 (6 * expression_size condition) _ (omega arith) (body_weighs g condition))
      (turn_weighs _ _ 0 (6 * statement_size then + 3) 0 (6 * statement_size else + 3) _ _ (omega arith)
      (branch_weighs _ _ (6 * statement_size then) _ (omega arith) (statement_weighs then)) (branch_weighs _ _ (6 * statement_size else) _ (omega arith) (statement_weighs else)))

  pub statement_weight : (s : Statement) (g : Guard) (i : ℕ) → weight (statement_events scope s g i) ≤ 6 * statement_size s
  statement_weight s g i = omega (arith, (statement_weighs s g).at_most i)
