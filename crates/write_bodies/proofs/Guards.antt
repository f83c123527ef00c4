-- How many events there are, and how many variables they make, depends neither on the guard nor on the number of the first variable.
use Rattle.std.specs.Prelude.{◌≡◌, ◌&&◌, ◌+◌}
use Rattle.kit.specs.Names.{refl, ap, ap₂, sym, ◌∙◌, Bool, true, false, cond, none, ℕ, suc, length, length-append}
use Rattle.definitions.specs.ContractFile.{me_name, Owner, everyone, owned_by, Expression, Statement, Scope, field_at, is_division}
use Rattle.definitions.specs.Owners.{is_public, name_of, place_owner}
use Rattle.definitions.specs.Rewriting.{Guard, under}
use Rattle.rewrite_events.proofs.Appended.{variable_count_append}
use Rattle.rewrite_events.specs.Events.{variables_of, variable_count, Events, no_events, in_turn, supply_events, read_events, body_events, circuit_events, place_events, ended, branch_events, statement_events}

pub record Alike (first second : Events) : Type 0 where
  pub lengths : (i j : ℕ) → length (first i) ≡ length (second j)
  pub variables : (i j : ℕ) → variable_count (first i) ≡ variable_count (second j)

nothing_alike : Alike no_events no_events
unfolding no_events
nothing_alike = record { lengths = λ i j. refl; variables = λ i j. refl }

turn_alike : (a b c d : Events) → Alike a c → Alike b d → Alike (in_turn a b) (in_turn c d)
unfolding in_turn
turn_alike a b c d h k =
    record {
      lengths = λ i j. length-append (a i) _ ∙ ap₂ ◌+◌ (h.lengths i j) (k.lengths _ _) ∙ sym (length-append (c j) _);
      variables = λ i j. variable_count_append (a i) _ ∙ ap₂ ◌+◌ (h.variables i j) (k.variables _ _) ∙ sym (variable_count_append (c j) _);
    }

supply_alike : (g k : Guard) (o : Owner) (e : Expression) (a b : Events) → Alike a b → Alike (supply_events g o e a) (supply_events k o e b)
unfolding supply_events variables_of
supply_alike g k o e a b h =
    record {
      lengths = λ i j. ap suc (length-append (a (suc i)) _ ∙ ap (λ (n : ℕ). n + 1) (h.lengths (suc i) (suc j)) ∙ sym (length-append (b (suc j)) _));
      variables = λ i j. ap suc (variable_count_append (a (suc i)) _ ∙ ap (λ (n : ℕ). n + 0) (h.variables (suc i) (suc j)) ∙ sym (variable_count_append (b (suc j)) _));
    }

read_alike : (o : Owner) (e : Expression) (a b : Events) → Alike a b → Alike (read_events o e a) (read_events o e b)
unfolding read_events variables_of
read_alike o e a b h =
    record {
      lengths = λ i j. length-append (a i) _ ∙ ap (λ (n : ℕ). n + 1) (h.lengths i j) ∙ sym (length-append (b j) _);
      variables = λ i j. variable_count_append (a i) _ ∙ ap (λ (n : ℕ). n + 1) (h.variables i j) ∙ sym (variable_count_append (b j) _);
    }

ended_alike : (a b : Events) → Alike a b → Alike (ended a) (ended b)
unfolding ended variables_of
ended_alike a b h =
    record {
      lengths = λ i j. length-append (a i) _ ∙ ap (λ (n : ℕ). n + 1) (h.lengths i j) ∙ sym (length-append (b j) _);
      variables = λ i j. variable_count_append (a i) _ ∙ ap (λ (n : ℕ). n + 0) (h.variables i j) ∙ sym (variable_count_append (b j) _);
    }

either_alike : (b : Bool) (x y z w : Events) → Alike x z → Alike y w → Alike (cond b x y) (cond b z w)
either_alike true x y z w h k = h
either_alike false x y z w h k = k

branch_alike : (a b : Guard → Events) → ((g k : Guard) → Alike (a g) (b k)) → Alike (branch_events a) (branch_events b)
unfolding branch_events variables_of
branch_alike a b h =
    record {
      lengths = λ i j. ap suc ((h (under i) (under j)).lengths (suc i) (suc j));
      variables = λ i j. ap suc ((h (under i) (under j)).variables (suc i) (suc j));
    }

module _ (scope : Scope) (g k : Guard) where
  mutual
    unfolding body_events circuit_events

    body_alike : (e : Expression) → Alike (body_events scope g e) (body_events scope k e)
    body_alike (Expression.constant t v) = nothing_alike
    body_alike Expression.me = nothing_alike
    body_alike (Expression.field f) = nothing_alike
    body_alike (Expression.entry f key) = body_alike key
    body_alike (Expression.parameter n) = nothing_alike
    body_alike (Expression.operator o left right) =
        let bodies = turn_alike _ _ _ _ (body_alike left) (body_alike right) in
        either_alike (is_public scope (Expression.operator o left right)) _ _ _ _ bodies
        (supply_alike g k (owned_by me_name) _ _ _
        (either_alike (is_public scope (Expression.operator o left right) && is_division o) _ _ _ _ (read_alike everyone _ _ _ bodies)
        (turn_alike _ _ _ _ (circuit_alike left) (circuit_alike right))))
    body_alike (Expression.negation part) =
        either_alike (is_public scope (Expression.negation part)) _ _ _ _ (body_alike part) (supply_alike g k (owned_by me_name) _ _ _ (circuit_alike part))
    body_alike (Expression.reveal part o) = supply_alike g k o _ _ _ (circuit_alike part)

    circuit_alike : (e : Expression) → Alike (circuit_events scope g e) (circuit_events scope k e)
    circuit_alike (Expression.constant t v) = nothing_alike
    circuit_alike Expression.me = nothing_alike
    circuit_alike (Expression.field f) = read_alike _ (Expression.field f) _ _ nothing_alike
    circuit_alike (Expression.entry f key) = read_alike _ (Expression.entry f key) _ _ (body_alike key)
    circuit_alike (Expression.parameter n) = read_alike _ (Expression.parameter n) _ _ nothing_alike
    circuit_alike (Expression.operator o left right) =
        either_alike (is_public scope (Expression.operator o left right) && is_division o) _ _ _ _
        (read_alike everyone _ _ _ (turn_alike _ _ _ _ (body_alike left) (body_alike right)))
        (turn_alike _ _ _ _ (circuit_alike left) (circuit_alike right))
    circuit_alike (Expression.negation part) = circuit_alike part
    circuit_alike (Expression.reveal part o) = circuit_alike part

  place_alike : (o : Owner) (e : Expression) → Alike (place_events scope g o e) (place_events scope k o e)
  place_alike everyone e = body_alike e
  place_alike (owned_by n) e = either_alike (is_public scope e) _ _ _ _ (supply_alike g k (owned_by n) e _ _ (circuit_alike e)) (body_alike e)

pub statement_alike : (scope : Scope) (s : Statement) (g k : Guard) → Alike (statement_events scope s g) (statement_events scope s k)
unfolding statement_events
statement_alike scope Statement.skip g k = ended_alike _ _ nothing_alike
statement_alike scope (Statement.sequence first second) g k = turn_alike _ _ _ _ (statement_alike scope first g k) (statement_alike scope second g k)
statement_alike scope (Statement.assign_field f value) g k =
    ended_alike _ _ (place_alike scope g k (place_owner (field_at scope.fields f).owner none) value)
statement_alike scope (Statement.assign_entry f key value) g k =
    ended_alike _ _ (turn_alike _ _ _ _ (body_alike scope g k key) (place_alike scope g k (place_owner (field_at scope.fields f).owner (name_of scope key)) value))
statement_alike scope (Statement.require condition) g k = ended_alike _ _ (body_alike scope g k condition)
statement_alike scope (Statement.conditional condition then else) g k =
    turn_alike _ _ _ _ (ended_alike _ _ (body_alike scope g k condition))
    (turn_alike _ _ _ _ (branch_alike (statement_events scope then) (statement_events scope then) (statement_alike scope then))
    (branch_alike (statement_events scope else) (statement_events scope else) (statement_alike scope else)))

pub condition_alike : (scope : Scope) (e : Expression) (g k : Guard) → Alike (ended (body_events scope g e)) (ended (body_events scope k e))
condition_alike scope e g k = ended_alike _ _ (body_alike scope g k e)
