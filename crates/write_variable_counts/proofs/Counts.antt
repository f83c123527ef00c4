-- The counts are the lengths of the lists of variables that rewriting makes, whatever the number of the first variable is.
use Rattle.std.specs.Prelude.{◌≡◌, ◌&&◌, ◌∷◌, ◌+◌}
use Rattle.kit.specs.Names.{refl, ap, ap₂, ◌∙◌, Bool, true, false, cond, [], ℕ, suc, length, length-append}
use Rattle.definitions.specs.ContractFile.{Owner, everyone, Operator, Expression, Scope, is_division}
use Rattle.definitions.specs.Owners.{is_public, owner_of}
use Rattle.definitions.specs.Rewriting.{BodyExpression, Circuit, read_from, Generator, kept, one_part, two_parts, supplying, reading, operator_in_circuit, in_body, in_circuit}
use Rattle.write_variable_counts.specs.Counts.{operator_count, body_count, circuit_count}

-- A generator makes a number of variables that does not depend on where they begin.
pub record Makes {A : Type 0} (g : Generator A) (count : ℕ) : Type 0 where
  pub length : (i : ℕ) → length (g i).variables ≡ count

makes_kept : {A : Type 0} (form : A) → Makes (kept form) 0
unfolding kept
makes_kept form = record { length = λ i. refl }

makes_one : {A B : Type 0} (f : A → B) (part : Generator A) (n : ℕ) → Makes part n → Makes (one_part f part) n
unfolding one_part
makes_one f part n h = record { length = h.length }

makes_two : {A B C : Type 0} (f : A → B → C) (first : Generator A) (second : Generator B) (m n : ℕ) → Makes first m → Makes second n → Makes (two_parts f first second) (m + n)
unfolding two_parts
makes_two f first second m n h k =
    record {
      length = λ i.
          let a = h.length i in
          let b = k.length (i + length (first i).variables) in
          length-append (first i).variables (second (i + length (first i).variables)).variables ∙ ap₂ ◌+◌ a b;
    }

makes_supply : (o : Owner) (e : Expression) (circuit : Generator Circuit) (n : ℕ) → Makes circuit n → Makes (supplying o e circuit) (suc n)
unfolding supplying
makes_supply o e circuit n h = record { length = λ i. ap suc (h.length (suc i)) }

makes_read : (o : Owner) (e : Expression) (value : Generator BodyExpression) (n : ℕ) → Makes value n → Makes (reading o e value) (n + 1)
unfolding reading
makes_read o e value n h = record { length = λ i. length-append (value i).variables (read_from o e ∷ []) ∙ ap (λ (m : ℕ). m + 1) (h.length i) }

makes_cond : {A : Type 0} (b : Bool) (f g : Generator A) (m n : ℕ) → Makes f m → Makes g n → Makes (cond b f g) (cond b m n)
makes_cond true f g m n h k = h
makes_cond false f g m n h k = k

module _ (scope : Scope) where
  makes_operator : (o : Operator) (left right : Expression) (bl br cl cr : ℕ) (left_body right_body : Generator BodyExpression) (left_circuit right_circuit : Generator Circuit)
      → Makes left_body bl → Makes right_body br → Makes left_circuit cl → Makes right_circuit cr
      → Makes (operator_in_circuit (owner_of scope) o left right left_body right_body left_circuit right_circuit) (operator_count scope (is_public scope (Expression.operator o left right)) o bl br cl cr)
  makes_operator o left right bl br cl cr left_body right_body left_circuit right_circuit a b c d =
      makes_cond (is_public scope (Expression.operator o left right) && is_division o) _ _ _ _
      (makes_read everyone (Expression.operator o left right) _ _ (makes_two (BodyExpression.operator o) left_body right_body bl br a b))
      (makes_two (Circuit.operator o) left_circuit right_circuit cl cr c d)

  mutual
    unfolding in_body in_circuit body_count circuit_count

    pub body_makes : (e : Expression) → Makes (in_body (owner_of scope) e) (body_count scope e)
    body_makes (Expression.constant t v) = makes_kept _
    body_makes Expression.me = makes_kept _
    body_makes (Expression.field f) = makes_kept _
    body_makes (Expression.entry f key) = makes_one _ _ _ (body_makes key)
    body_makes (Expression.parameter k) = makes_kept _
    body_makes (Expression.operator o left right) =
        makes_cond (is_public scope (Expression.operator o left right)) _ _ _ _ (makes_two _ _ _ _ _ (body_makes left) (body_makes right))
        (makes_supply _ _ _ _ (makes_operator o left right _ _ _ _ _ _ _ _ (body_makes left) (body_makes right) (circuit_makes left) (circuit_makes right)))
    body_makes (Expression.negation part) =
        makes_cond (is_public scope (Expression.negation part)) _ _ _ _ (makes_one _ _ _ (body_makes part))
        (makes_supply _ _ _ _ (makes_one _ _ _ (circuit_makes part)))
    body_makes (Expression.reveal part o) = makes_supply _ _ _ _ (circuit_makes part)

    pub circuit_makes : (e : Expression) → Makes (in_circuit (owner_of scope) e) (circuit_count scope e)
    circuit_makes (Expression.constant t v) = makes_kept _
    circuit_makes Expression.me = makes_kept _
    circuit_makes (Expression.field f) = makes_read _ _ _ 0 (makes_kept _)
    circuit_makes (Expression.entry f key) = makes_read _ _ _ _ (makes_one _ _ _ (body_makes key))
    circuit_makes (Expression.parameter k) = makes_read _ _ _ 0 (makes_kept _)
    circuit_makes (Expression.operator o left right) =
        makes_operator o left right _ _ _ _ _ _ _ _ (body_makes left) (body_makes right) (circuit_makes left) (circuit_makes right)
    circuit_makes (Expression.negation part) = makes_one _ _ _ (circuit_makes part)
    circuit_makes (Expression.reveal part o) = circuit_makes part
