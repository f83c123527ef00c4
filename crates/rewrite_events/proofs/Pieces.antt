-- The events of an expression make its piece, in the body, in a circuit and in a place; those of a statement make its passage.
use Rattle.std.specs.Prelude.{◌≡◌, ◌∷◌, ◌++◌, ◌+◌}
use Rattle.kit.specs.Names.{refl, ap, ap₂, sym, ◌∙◌, Bool, true, false, cond, List, append-nil, ℕ, suc, length}
use Rattle.definitions.specs.ContractFile.{me_name, Owner, everyone, owned_by, Operator, Expression, Scope, is_division}
use Rattle.definitions.specs.Owners.{is_public, owner_of}
use Rattle.definitions.specs.Rewriting.{Variable, BodyExpression, Circuit, Guard, supplied, Piece, Generator, kept, one_part, two_parts, supplying, reading, in_body, in_circuit, in_place}
use Rattle.rewrite_events.specs.Events.{Event, variables_of, steps_of, constraints_of, Events, no_events, in_turn, supply_events, read_events, body_events, circuit_events, place_events, ended}
use Rattle.rewrite_events.specs.Making.{MakesPiece}
use Rattle.rewrite_events.proofs.Appended.{variables_append, steps_append, constraints_append, held_append}

pub before_same : {A : Type 0} {first first' : List A} (rest : List A) → first ≡ first' → first ++ rest ≡ first' ++ rest
before_same rest e = rw e

module _ (scope : Scope) (g : Guard) where
  pub kept_made : {A : Type 0} (form : A) (i : ℕ) → MakesPiece scope g (no_events i) (kept form i)
  unfolding kept no_events variables_of steps_of constraints_of
  kept_made form i = record { variables = refl; steps = refl; constraints = refl }

  -- The mark that events are all makes nothing.
  pub ended_made : {A : Type 0} (piece : Piece A) (events : Events) (i : ℕ) → MakesPiece scope g (events i) piece → MakesPiece scope g (ended events i) piece
  unfolding ended variables_of steps_of constraints_of
  ended_made piece events i h =
      record {
        variables = variables_append (events i) _ ∙ append-nil _ ∙ h.variables;
        steps = steps_append scope (events i) _ ∙ append-nil _ ∙ h.steps;
        constraints = constraints_append scope (events i) _ ∙ append-nil _ ∙ h.constraints;
      }

  pub one_made : {A B : Type 0} (f : A → B) (part : Generator A) (events : List Event) (i : ℕ) → MakesPiece scope g events (part i)
      → MakesPiece scope g events (one_part f part i)
  unfolding one_part
  one_made f part events i h = record { variables = h.variables; steps = h.steps; constraints = h.constraints }

  pub two_made : {A B C : Type 0} (f : A → B → C) (first : Generator A) (second : Generator B) (a b : Events)
      → ((i : ℕ) → MakesPiece scope g (a i) (first i)) → ((i : ℕ) → MakesPiece scope g (b i) (second i))
      → (i : ℕ) → MakesPiece scope g (in_turn a b i) (two_parts f first second i)
  unfolding two_parts in_turn
  two_made f first second a b h k i =
      let p = h i in
      let j : i + length (variables_of (a i)) ≡ i + length (first i).variables = ap (λ (l : List Variable). i + length l) p.variables in
      let q = k (i + length (first i).variables) in
      record {
        variables = rw j (variables_append (a i) _ ∙ ap₂ ◌++◌ p.variables q.variables);
        steps = rw j (steps_append scope (a i) _ ∙ ap₂ ◌++◌ p.steps q.steps);
        constraints = rw j (constraints_append scope (a i) _ ∙ ap₂ ◌++◌ p.constraints q.constraints ∙ sym (held_append g (first i).claims (second (i + length (first i).variables)).claims));
      }

  supply_made : (o : Owner) (e : Expression) (events : Events) → ((i : ℕ) → MakesPiece scope g (events i) (in_circuit (owner_of scope) e i))
      → (i : ℕ) → MakesPiece scope g (supply_events g o e events i) (supplying o e (in_circuit (owner_of scope) e) i)
  unfolding supplying supply_events variables_of steps_of constraints_of
  supply_made o e events h i =
      let c = h (suc i) in
      record {
        variables = ap (λ (l : List Variable). supplied o e ∷ l) (variables_append (events (suc i)) _ ∙ append-nil _ ∙ c.variables);
        steps = steps_append scope (events (suc i)) _ ∙ append-nil _ ∙ c.steps;
        constraints =
            constraints_append scope (events (suc i)) _ ∙ before_same _ c.constraints
            ∙ sym (held_append g (in_circuit (owner_of scope) e (suc i)).claims _);
      }

  read_made : (o : Owner) (e : Expression) (value : Generator BodyExpression) (events : Events)
      → ((i : ℕ) → (in_body (owner_of scope) e i).form ≡ (value i).form) → ((i : ℕ) → MakesPiece scope g (events i) (value i))
      → (i : ℕ) → MakesPiece scope g (read_events o e events i) (reading o e value i)
  unfolding reading read_events variables_of steps_of constraints_of
  read_made o e value events same h i =
      let v = h i in
      let j : i + length (variables_of (events i)) ≡ i + length (value i).variables = ap (λ (l : List Variable). i + length l) v.variables in
      record {
        variables = variables_append (events i) _ ∙ before_same _ v.variables;
        steps = rw (j, ← same i) (steps_append scope (events i) _ ∙ before_same _ v.steps);
        constraints = constraints_append scope (events i) _ ∙ append-nil _ ∙ v.constraints;
      }

  either_made : {A : Type 0} (b : Bool) (p q : Generator A) (x y : Events) → ((i : ℕ) → MakesPiece scope g (x i) (p i))
      → ((i : ℕ) → MakesPiece scope g (y i) (q i)) → (i : ℕ) → MakesPiece scope g (cond b x y i) (cond b p q i)
  either_made true p q x y h k i = h i
  either_made false p q x y h k i = k i

  module _ (o : Operator) (left right : Expression)
      (left_body : (i : ℕ) → MakesPiece scope g (body_events scope g left i) (in_body (owner_of scope) left i))
      (right_body : (i : ℕ) → MakesPiece scope g (body_events scope g right i) (in_body (owner_of scope) right i))
      (left_circuit : (i : ℕ) → MakesPiece scope g (circuit_events scope g left i) (in_circuit (owner_of scope) left i))
      (right_circuit : (i : ℕ) → MakesPiece scope g (circuit_events scope g right i) (in_circuit (owner_of scope) right i)) where
    abbrev parts : Generator BodyExpression
    parts = two_parts (BodyExpression.operator o) (in_body (owner_of scope) left) (in_body (owner_of scope) right)

    parts_made : (i : ℕ) → MakesPiece scope g (in_turn (body_events scope g left) (body_events scope g right) i) (parts i)
    parts_made = two_made (BodyExpression.operator o) (in_body (owner_of scope) left) (in_body (owner_of scope) right) _ _ left_body right_body

    public_form : is_public scope (Expression.operator o left right) ≡ true → (i : ℕ) → (in_body (owner_of scope) (Expression.operator o left right) i).form ≡ (parts i).form
    unfolding in_body
    public_form h i = rw h

    operator_in_circuit_law : (public division : Bool) → is_public scope (Expression.operator o left right) ≡ public → is_division o ≡ division
        → (i : ℕ) → MakesPiece scope g (circuit_events scope g (Expression.operator o left right) i) (in_circuit (owner_of scope) (Expression.operator o left right) i)
    unfolding in_circuit circuit_events
    operator_in_circuit_law true true h d i = rw (h, d) (read_made everyone (Expression.operator o left right) parts _ (public_form h) parts_made i)
    operator_in_circuit_law true false h d i = rw (h, d) (two_made (Circuit.operator o) (in_circuit (owner_of scope) left) (in_circuit (owner_of scope) right) _ _ left_circuit right_circuit i)
    operator_in_circuit_law false division h d i = rw h (two_made (Circuit.operator o) (in_circuit (owner_of scope) left) (in_circuit (owner_of scope) right) _ _ left_circuit right_circuit i)

    operator_made : (i : ℕ) → MakesPiece scope g (circuit_events scope g (Expression.operator o left right) i) (in_circuit (owner_of scope) (Expression.operator o left right) i)
    operator_made = operator_in_circuit_law (is_public scope (Expression.operator o left right)) (is_division o) refl refl

    operator_in_body : (i : ℕ) → MakesPiece scope g (body_events scope g (Expression.operator o left right) i) (in_body (owner_of scope) (Expression.operator o left right) i)
    unfolding in_body in_circuit body_events circuit_events
    operator_in_body i =
        either_made (is_public scope (Expression.operator o left right)) _ _ _ _ parts_made (supply_made (owned_by me_name) (Expression.operator o left right) _ operator_made) i

  negation_in_body : (part : Expression) → ((i : ℕ) → MakesPiece scope g (body_events scope g part i) (in_body (owner_of scope) part i))
      → ((i : ℕ) → MakesPiece scope g (circuit_events scope g part i) (in_circuit (owner_of scope) part i))
      → (i : ℕ) → MakesPiece scope g (body_events scope g (Expression.negation part) i) (in_body (owner_of scope) (Expression.negation part) i)
  unfolding in_body in_circuit body_events
  negation_in_body part h k i =
      either_made (is_public scope (Expression.negation part)) _ _ _ _ (λ j. one_made BodyExpression.negation (in_body (owner_of scope) part) _ j (h j))
      (supply_made (owned_by me_name) (Expression.negation part) _ (λ j. one_made Circuit.negation (in_circuit (owner_of scope) part) _ j (k j))) i

  mutual
    unfolding body_events circuit_events in_body in_circuit

    pub body_made : (e : Expression) (i : ℕ) → MakesPiece scope g (body_events scope g e i) (in_body (owner_of scope) e i)
    body_made (Expression.constant t v) i = kept_made _ i
    body_made Expression.me i = kept_made _ i
    body_made (Expression.field f) i = kept_made _ i
    body_made (Expression.entry f key) i = one_made _ (in_body (owner_of scope) key) _ i (body_made key i)
    body_made (Expression.parameter k) i = kept_made _ i
    body_made (Expression.operator o left right) i =
        operator_in_body o left right (λ j. body_made left j) (λ j. body_made right j) (λ j. circuit_made left j) (λ j. circuit_made right j) i
    body_made (Expression.negation part) i =
        negation_in_body part (λ j. body_made part j) (λ j. circuit_made part j) i
    body_made (Expression.reveal part o) i = supply_made o (Expression.reveal part o) _ (λ j. circuit_made part j) i

    pub circuit_made : (e : Expression) (i : ℕ) → MakesPiece scope g (circuit_events scope g e i) (in_circuit (owner_of scope) e i)
    circuit_made (Expression.constant t v) i = kept_made _ i
    circuit_made Expression.me i = kept_made _ i
    circuit_made (Expression.field f) i = read_made _ (Expression.field f) _ _ (λ j. refl) (λ j. kept_made (BodyExpression.field f) j) i
    circuit_made (Expression.entry f key) i =
        read_made _ (Expression.entry f key) _ _ (λ j. refl) (λ j. one_made (BodyExpression.entry f) (in_body (owner_of scope) key) _ j (body_made key j)) i
    circuit_made (Expression.parameter k) i = read_made _ (Expression.parameter k) _ _ (λ j. refl) (λ j. kept_made (BodyExpression.parameter k) j) i
    circuit_made (Expression.operator o left right) i =
        operator_made o left right (λ j. body_made left j) (λ j. body_made right j) (λ j. circuit_made left j) (λ j. circuit_made right j) i
    circuit_made (Expression.negation part) i = one_made Circuit.negation (in_circuit (owner_of scope) part) _ i (circuit_made part i)
    circuit_made (Expression.reveal part o) i = circuit_made part i

  pub place_made : (o : Owner) (e : Expression) (i : ℕ) → MakesPiece scope g (place_events scope g o e i) (in_place (owner_of scope) o e i)
  place_made everyone e i = body_made e i
  place_made (owned_by n) e i = either_made (is_public scope e) _ _ _ _ (supply_made (owned_by n) e _ (circuit_made e)) (body_made e) i
