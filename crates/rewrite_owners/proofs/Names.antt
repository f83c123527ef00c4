-- The name and the owner code of an expression, by its kind, from the codes of its parts.
use Rattle.std.specs.Prelude.{◌≡◌}
use Rattle.kit.specs.Names.{refl, ap, sym, ◌∙◌, true, cond, none, some, ℕ, eqb, eq-eqb, ne_eqb}
use Rattle.definitions.specs.ContractFile.{DataType, Owner, everyone, Operator, Expression, Scope, field_at, parameter_at, is_final, final_name, parameter_name, owner_of_code, owner_code, field_owner_code}
use Rattle.definitions.specs.Owners.{name_of, owner_of, is_public_address, parameter_owner, is_public}
use Rattle.definitions.specs.Numbers.{target_in_tables}
use Rattle.rewrite_owners.specs.Codes.{name_code, parts_code, place_code}
use Rattle.rewrite_owners.proofs.Codes.{parts_code_law, place_code_law, target_code, public_test}

-- Expressions are given by what they are equal to, as code learns it.
module _ (scope : Scope) (e : Expression) where
  pub unnamed_constant : (t : DataType) (v : ℕ) → e ≡ Expression.constant t v → 0 ≡ name_code (name_of scope e)
  unfolding name_of
  unnamed_constant t v h = rw h

  pub named_me : e ≡ Expression.me → 1 ≡ name_code (name_of scope e)
  unfolding name_of
  named_me h = rw h

  pub named_field : (r f : ℕ) → e ≡ Expression.field f → r ≡ name_code (cond (is_final (field_at scope.fields f).shape) (some (final_name f)) none)
      → r ≡ name_code (name_of scope e)
  unfolding name_of
  named_field r f h k = rw h k

  pub unnamed_entry : (f : ℕ) (key : Expression) → e ≡ Expression.entry f key → 0 ≡ name_code (name_of scope e)
  unfolding name_of
  unnamed_entry f key h = rw h

  pub named_parameter : (r p : ℕ) → e ≡ Expression.parameter p
      → r ≡ name_code (cond (is_public_address (parameter_at scope.parameters p)) (some (parameter_name p)) none) → r ≡ name_code (name_of scope e)
  unfolding name_of
  named_parameter r p h k = rw h k

  pub unnamed_operator : (o : Operator) (left right : Expression) → e ≡ Expression.operator o left right → 0 ≡ name_code (name_of scope e)
  unfolding name_of
  unnamed_operator o left right h = rw h

  pub unnamed_negation : (part : Expression) → e ≡ Expression.negation part → 0 ≡ name_code (name_of scope e)
  unfolding name_of
  unnamed_negation part h = rw h

  pub unnamed_reveal : (part : Expression) (o : Owner) → e ≡ Expression.reveal part o → 0 ≡ name_code (name_of scope e)
  unfolding name_of
  unnamed_reveal part o h = rw h

  pub owned_constant : (t : DataType) (v : ℕ) → e ≡ Expression.constant t v → 0 ≡ owner_code (owner_of scope e)
  unfolding owner_of
  owned_constant t v h = rw h

  pub owned_me : e ≡ Expression.me → 0 ≡ owner_code (owner_of scope e)
  unfolding owner_of
  owned_me h = rw h

  pub owned_field : (r o f : ℕ) → e ≡ Expression.field f → o ≡ field_owner_code (field_at scope.fields f).owner → r ≡ place_code o 0
      → r ≡ owner_code (owner_of scope e)
  unfolding owner_of
  owned_field r o f h k p = rw h (p ∙ ap (λ (n : ℕ). place_code n 0) k ∙ sym (place_code_law (field_at scope.fields f).owner none))

  pub owned_entry : (r o name f : ℕ) (key : Expression) → e ≡ Expression.entry f key → o ≡ field_owner_code (field_at scope.fields f).owner
      → name ≡ name_code (name_of scope key) → r ≡ place_code o name → r ≡ owner_code (owner_of scope e)
  unfolding owner_of
  owned_entry r o name f key h k n p =
      rw h
      (p ∙ ap (λ (x : ℕ). place_code x name) k ∙ ap (place_code (field_owner_code (field_at scope.fields f).owner)) n
      ∙ sym (place_code_law (field_at scope.fields f).owner (name_of scope key)))

  pub owned_parameter : (r p : ℕ) → e ≡ Expression.parameter p → r ≡ owner_code (parameter_owner (parameter_at scope.parameters p))
      → r ≡ owner_code (owner_of scope e)
  unfolding owner_of
  owned_parameter r p h k = rw h k

  -- What the left operand decides, and what the right one does where the left is public.
  module _ (a : ℕ) (o : Operator) (left right : Expression) (h : e ≡ Expression.operator o left right) (k : a ≡ owner_code (owner_of scope left)) where
    operator_code_law : (b : ℕ) → b ≡ owner_code (owner_of scope right) → owner_code (owner_of scope e) ≡ parts_code a b
    unfolding owner_of
    operator_code_law b m =
        ap (λ (x : Expression). owner_code (owner_of scope x)) h ∙ parts_code_law (owner_of scope left) (owner_of scope right)
        ∙ ap (λ (x : ℕ). parts_code x (owner_code (owner_of scope right))) (sym k) ∙ ap (parts_code a) (sym m)

    pub owned_by_left : (a ≡ 0 → ⊥) → 1 ≡ owner_code (owner_of scope e)
    owned_by_left private = rw (operator_code_law (owner_code (owner_of scope right)) refl, ne_eqb a 0 private)

    pub owned_by_right : (r b : ℕ) → a ≡ 0 → b ≡ owner_code (owner_of scope right) → r ≡ parts_code b 0 → r ≡ owner_code (owner_of scope e)
    owned_by_right r b public m p = rw (operator_code_law b m, eq-eqb a 0 public) p

  pub owned_negation : (r a : ℕ) (part : Expression) → e ≡ Expression.negation part → a ≡ owner_code (owner_of scope part) → r ≡ parts_code a 0
      → r ≡ owner_code (owner_of scope e)
  unfolding owner_of
  owned_negation r a part h k p = rw h (p ∙ ap (λ (x : ℕ). parts_code x 0) k ∙ sym (parts_code_law (owner_of scope part) everyone))

  pub owned_reveal : (code : ℕ) (part : Expression) → e ≡ Expression.reveal part (owner_of_code code) → target_in_tables code ≡ true → code ≡ owner_code (owner_of scope e)
  unfolding owner_of
  owned_reveal code part h listed = rw h (sym (target_code code listed))

  pub tested_public : (r : ℕ) → r ≡ owner_code (owner_of scope e) → eqb r 0 ≡ is_public scope e
  tested_public r h = public_test r (owner_of scope e) h
