-- The counts by an expression's kind, as code learns it.
use Rattle.std.specs.Prelude.{◌≡◌, ◌&&◌, ◌+◌}
use Rattle.kit.specs.Names.{true, false, ℕ, add-one}
use Rattle.definitions.specs.ContractFile.{DataType, Owner, Operator, Expression, Scope, is_division}
use Rattle.definitions.specs.Owners.{is_public}
use Rattle.write_variable_counts.specs.Counts.{body_count, circuit_count}

module _ (scope : Scope) (e : Expression) where
  pub body_constant : (t : DataType) (v : ℕ) → e ≡ Expression.constant t v → 0 ≡ body_count scope e
  unfolding body_count
  body_constant t v h = rw h

  pub body_me : e ≡ Expression.me → 0 ≡ body_count scope e
  unfolding body_count
  body_me h = rw h

  pub body_field : (f : ℕ) → e ≡ Expression.field f → 0 ≡ body_count scope e
  unfolding body_count
  body_field f h = rw h

  pub body_parameter : (k : ℕ) → e ≡ Expression.parameter k → 0 ≡ body_count scope e
  unfolding body_count
  body_parameter k h = rw h

  pub body_entry : (f : ℕ) (key : Expression) → e ≡ Expression.entry f key → body_count scope key ≡ body_count scope e
  unfolding body_count
  body_entry f key h = rw h

  pub body_operator : (o : Operator) (left right : Expression) → e ≡ Expression.operator o left right → is_public scope e ≡ true
      → body_count scope left + body_count scope right ≡ body_count scope e
  unfolding body_count
  body_operator o left right h p = let q : is_public scope (Expression.operator o left right) ≡ true = rw h at p in rw (h, q)

  pub body_supplied_operator : (o : Operator) (left right : Expression) → e ≡ Expression.operator o left right → is_public scope e ≡ false
      → circuit_count scope e + 1 ≡ body_count scope e
  unfolding body_count circuit_count
  body_supplied_operator o left right h p = let q : is_public scope (Expression.operator o left right) ≡ false = rw h at p in rw (h, q) (add-one _)

  pub body_negation : (part : Expression) → e ≡ Expression.negation part → is_public scope e ≡ true → body_count scope part ≡ body_count scope e
  unfolding body_count
  body_negation part h p = let q : is_public scope (Expression.negation part) ≡ true = rw h at p in rw (h, q)

  pub body_supplied_negation : (part : Expression) → e ≡ Expression.negation part → is_public scope e ≡ false → circuit_count scope e + 1 ≡ body_count scope e
  unfolding body_count circuit_count
  body_supplied_negation part h p = let q : is_public scope (Expression.negation part) ≡ false = rw h at p in rw (h, q) (add-one _)

  pub body_reveal : (part : Expression) (o : Owner) → e ≡ Expression.reveal part o → circuit_count scope e + 1 ≡ body_count scope e
  unfolding body_count circuit_count
  body_reveal part o h = rw h (add-one _)

  pub circuit_constant : (t : DataType) (v : ℕ) → e ≡ Expression.constant t v → 0 ≡ circuit_count scope e
  unfolding circuit_count
  circuit_constant t v h = rw h

  pub circuit_me : e ≡ Expression.me → 0 ≡ circuit_count scope e
  unfolding circuit_count
  circuit_me h = rw h

  pub circuit_field : (f : ℕ) → e ≡ Expression.field f → 1 ≡ circuit_count scope e
  unfolding circuit_count
  circuit_field f h = rw h

  pub circuit_parameter : (k : ℕ) → e ≡ Expression.parameter k → 1 ≡ circuit_count scope e
  unfolding circuit_count
  circuit_parameter k h = rw h

  pub circuit_entry : (f : ℕ) (key : Expression) → e ≡ Expression.entry f key → body_count scope key + 1 ≡ circuit_count scope e
  unfolding circuit_count
  circuit_entry f key h = rw h

  pub circuit_division : (o : Operator) (left right : Expression) → e ≡ Expression.operator o left right → is_public scope e && is_division o ≡ true
      → body_count scope left + body_count scope right + 1 ≡ circuit_count scope e
  unfolding circuit_count
  circuit_division o left right h p = let q : is_public scope (Expression.operator o left right) && is_division o ≡ true = rw h at p in rw (h, q)

  pub circuit_operator : (o : Operator) (left right : Expression) → e ≡ Expression.operator o left right → is_public scope e && is_division o ≡ false
      → circuit_count scope left + circuit_count scope right ≡ circuit_count scope e
  unfolding circuit_count
  circuit_operator o left right h p = let q : is_public scope (Expression.operator o left right) && is_division o ≡ false = rw h at p in rw (h, q)

  pub circuit_negation : (part : Expression) → e ≡ Expression.negation part → circuit_count scope part ≡ circuit_count scope e
  unfolding circuit_count
  circuit_negation part h = rw h

  pub circuit_reveal : (part : Expression) (o : Owner) → e ≡ Expression.reveal part o → circuit_count scope part ≡ circuit_count scope e
  unfolding circuit_count
  circuit_reveal part o h = rw h
