-- The variables of the circuits that a statement's events claim are among the statement's own.
use Rattle.std.specs.Prelude.{◌≡◌, ◌&&◌, ◌∷◌, ◌++◌, ◌+◌, ◌≤◌}
use Rattle.kit.specs.Names.{refl, ap, ◌∙◌, Bool, true, false, cond, List, [], none, ℕ, suc, arith, length}
use Rattle.definitions.specs.ContractFile.{me_name, Owner, everyone, owned_by, Operator, Expression, Statement, Scope, field_at, is_division}
use Rattle.definitions.specs.Owners.{name_of, place_owner, is_public}
use Rattle.definitions.specs.Rewriting.{Guard, under}
use Rattle.rewrite_events.proofs.Appended.{variable_count_append}
use Rattle.write_variable_counts.specs.Counts.{circuit_count}
use Rattle.write_variable_counts.proofs.Counts.{circuit_makes}
use Rattle.write_variable_counts.proofs.Steps.{circuit_negation, circuit_reveal}
use Rattle.rewrite_events.specs.Events.{Event, supplied_event, claimed_event, read_event, guard_event, end_event, variables_of, variable_count, Events, no_events, in_turn, supply_events, read_events, operator_events, body_events, circuit_events, place_events, ended, branch_events, statement_events}
use Rattle.rewrite_events.proofs.Pieces.{circuit_made}
use Rattle.write_circuits.specs.ClaimsWithin.{ClaimsWithin}

module _ (scope : Scope) where
  within_more : (m n : ℕ) (events : List Event) → m ≤ n → ClaimsWithin scope m events → ClaimsWithin scope n events
  unfolding ClaimsWithin
  within_more m n [] h r = tt
  within_more m n (supplied_event i o e ∷ events) h r = within_more m n events h r
  within_more m n (claimed_event g i o e ∷ events) h r = let low = r.0 in (omega arith, within_more m n events h r.1)
  within_more m n (read_event s j o e ∷ events) h r = within_more m n events h r
  within_more m n (guard_event i ∷ events) h r = within_more m n events h r
  within_more m n (end_event i ∷ events) h r = within_more m n events h r

  within_append : (m : ℕ) (first second : List Event) → ClaimsWithin scope m first → ClaimsWithin scope m second → ClaimsWithin scope m (first ++ second)
  unfolding ClaimsWithin
  within_append m [] second a b = b
  within_append m (supplied_event i o e ∷ events) second a b = within_append m events second a b
  within_append m (claimed_event g i o e ∷ events) second a b = (a.0, within_append m events second a.1 b)
  within_append m (read_event s j o e ∷ events) second a b = within_append m events second a b
  within_append m (guard_event i ∷ events) second a b = within_append m events second a b
  within_append m (end_event i ∷ events) second a b = within_append m events second a b

  pub record Within (events : Events) : Type 0 where
    pub claims : (i : ℕ) → ClaimsWithin scope (i + variable_count (events i)) (events i)

  none_within : Within no_events
  unfolding no_events ClaimsWithin
  none_within = record { claims = λ i. tt }

  turn_within : (a b : Events) → Within a → Within b → Within (in_turn a b)
  unfolding in_turn
  turn_within a b x y =
      record {
        claims = λ i.
            let j = i + variable_count (a i) in
            let total = variable_count_append (a i) (b j) in
            within_append (i + variable_count (a i ++ b j)) (a i) (b j) (within_more j (i + variable_count (a i ++ b j)) (a i) (omega arith) (x.claims i))
            (within_more (j + variable_count (b j)) (i + variable_count (a i ++ b j)) (b j) (omega arith) (y.claims j));
      }

  supply_within : (g : Guard) (o : Owner) (e : Expression) (circuit : Events) → Within circuit → ((i : ℕ) → variable_count (circuit i) ≡ circuit_count scope e)
      → Within (supply_events g o e circuit)
  unfolding supply_events ClaimsWithin variables_of
  supply_within g o e circuit x counted =
      record {
        claims = λ i.
            let c = circuit (suc i) in
            let total = variable_count_append c (claimed_event g i o e ∷ []) in
            let own = counted (suc i) in
            within_append (i + suc (variable_count (c ++ (claimed_event g i o e ∷ [])))) c (claimed_event g i o e ∷ [])
            (within_more (suc i + variable_count c) (i + suc (variable_count (c ++ (claimed_event g i o e ∷ [])))) c (omega arith) (x.claims (suc i))) (omega arith, tt);
      }

  read_within : (o : Owner) (e : Expression) (parts : Events) → Within parts → Within (read_events o e parts)
  unfolding read_events ClaimsWithin variables_of
  read_within o e parts x =
      record {
        claims = λ i.
            let p = parts i in
            let own = read_event i (i + variable_count p) o e ∷ [] in
            let total = variable_count_append p own in
            within_append (i + variable_count (p ++ own)) p own (within_more (i + variable_count p) (i + variable_count (p ++ own)) p (omega arith) (x.claims i)) tt;
      }

  pub ended_within : (events : Events) → Within events → Within (ended events)
  unfolding ended ClaimsWithin variables_of
  ended_within events x =
      record {
        claims = λ i.
            let own = end_event (i + variable_count (events i)) ∷ [] in
            let total = variable_count_append (events i) own in
            within_append (i + variable_count (events i ++ own)) (events i) own
            (within_more (i + variable_count (events i)) (i + variable_count (events i ++ own)) (events i) (omega arith) (x.claims i)) tt;
      }

  either_within : (test : Bool) (a b : Events) → Within a → Within b → Within (cond test a b)
  either_within true a b x y = x
  either_within false a b x y = y

  module _ (g : Guard) where
    counted_circuit : (e : Expression) (i : ℕ) → variable_count (circuit_events scope g e i) ≡ circuit_count scope e
    counted_circuit e i = ap length (circuit_made scope g e i).variables ∙ (circuit_makes scope e).length i

    operator_counted : (o : Operator) (left right : Expression) (i : ℕ)
        → variable_count (operator_events scope g o left right (body_events scope g left) (body_events scope g right) (circuit_events scope g left) (circuit_events scope g right) i)
        ≡ circuit_count scope (Expression.operator o left right)
    unfolding circuit_events
    operator_counted o left right i = counted_circuit (Expression.operator o left right) i

    operator_within : (o : Operator) (left right : Expression) → Within (body_events scope g left) → Within (body_events scope g right) → Within (circuit_events scope g left)
        → Within (circuit_events scope g right)
        → Within (operator_events scope g o left right (body_events scope g left) (body_events scope g right) (circuit_events scope g left) (circuit_events scope g right))
    operator_within o left right a b c d =
        let e = Expression.operator o left right in
        either_within (is_public scope e && is_division o) _ _ (read_within everyone e _ (turn_within _ _ a b)) (turn_within _ _ c d)

    mutual
      unfolding body_events circuit_events

      pub body_within : (e : Expression) → Within (body_events scope g e)
      body_within (Expression.constant t v) = none_within
      body_within Expression.me = none_within
      body_within (Expression.field f) = none_within
      body_within (Expression.entry f key) = body_within key
      body_within (Expression.parameter k) = none_within
      body_within (Expression.operator o left right) =
          either_within (is_public scope (Expression.operator o left right)) _ _ (turn_within _ _ (body_within left) (body_within right))
          (supply_within g (owned_by me_name) (Expression.operator o left right) _
          (operator_within o left right (body_within left) (body_within right) (circuit_within left) (circuit_within right)) (operator_counted o left right))
      body_within (Expression.negation part) =
          either_within (is_public scope (Expression.negation part)) _ _ (body_within part)
          (supply_within g (owned_by me_name) (Expression.negation part) _ (circuit_within part)
          (λ i. counted_circuit part i ∙ circuit_negation scope (Expression.negation part) part refl))
      body_within (Expression.reveal part o) =
          supply_within g o (Expression.reveal part o) _ (circuit_within part) (λ i. counted_circuit part i ∙ circuit_reveal scope (Expression.reveal part o) part o refl)

      pub circuit_within : (e : Expression) → Within (circuit_events scope g e)
      circuit_within (Expression.constant t v) = none_within
      circuit_within Expression.me = none_within
      circuit_within (Expression.field f) = read_within _ (Expression.field f) _ none_within
      circuit_within (Expression.entry f key) = read_within _ (Expression.entry f key) _ (body_within key)
      circuit_within (Expression.parameter k) = read_within _ (Expression.parameter k) _ none_within
      circuit_within (Expression.operator o left right) = operator_within o left right (body_within left) (body_within right) (circuit_within left) (circuit_within right)
      circuit_within (Expression.negation part) = circuit_within part
      circuit_within (Expression.reveal part o) = circuit_within part

    pub place_within : (o : Owner) (e : Expression) → Within (place_events scope g o e)
    place_within everyone e = body_within e
    place_within (owned_by n) e =
        either_within (is_public scope e) _ _ (supply_within g (owned_by n) e _ (circuit_within e) (counted_circuit e)) (body_within e)

  branch_within : (inside : Guard → Events) → ((g : Guard) → Within (inside g)) → Within (branch_events inside)
  unfolding branch_events ClaimsWithin variables_of
  branch_within inside x =
      record {
        claims = λ i. within_more (suc i + variable_count (inside (under i) (suc i))) (i + suc (variable_count (inside (under i) (suc i)))) (inside (under i) (suc i)) (omega arith)
            ((x (under i)).claims (suc i));
      }

  pub statement_within : (s : Statement) (g : Guard) → Within (statement_events scope s g)
  unfolding statement_events
  statement_within Statement.skip g = ended_within _ none_within
  statement_within (Statement.sequence first second) g = turn_within _ _ (statement_within first g) (statement_within second g)
  statement_within (Statement.assign_field f value) g = ended_within _ (place_within g (place_owner (field_at scope.fields f).owner none) value)
  statement_within (Statement.assign_entry f key value) g =
      ended_within _ (turn_within _ _ (body_within g key) (place_within g (place_owner (field_at scope.fields f).owner (name_of scope key)) value))
  statement_within (Statement.require condition) g = ended_within _ (body_within g condition)
  statement_within (Statement.conditional condition then else) g =
      turn_within _ _ (ended_within _ (body_within g condition)) (turn_within _ _ (branch_within (statement_events scope then) (statement_within then)) (branch_within (statement_events scope else) (statement_within else)))

  -- So few variables that every number is one of two bytes.
  pub claims_few : (events : Events) (i : ℕ) → Within events → i + variable_count (events i) ≤ 65535 → ClaimsWithin scope 65535 (events i)
  claims_few events i x few = within_more (i + variable_count (events i)) 65535 (events i) few (x.claims i)
