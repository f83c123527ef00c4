-- The tree of a body's form, by the expression's kind, as code learns it.
use Rattle.std.specs.Prelude.{◌≡◌, ◌+◌, ◌%◌, ◌/◌}
use Rattle.kit.specs.Names.{ap, true, false, ℕ}
use Rattle.definitions.specs.ContractFile.{DataType, Owner, Operator, Expression, Scope, operator_code, data_type_code}
use Rattle.definitions.specs.Owners.{is_public}
use Rattle.definitions.specs.Rewriting.{kept, one_part, two_parts, supplying, in_body, leaf, one_child, two_children, body_tree}
use Rattle.write_variable_counts.specs.Counts.{body_count}
use Rattle.write_variable_counts.proofs.Counts.{body_makes}
use Rattle.write_reads.specs.Forms.{body_form}

module _ (scope : Scope) (e : Expression) (i : ℕ) where
  pub body_of_constant : (t : DataType) (v : ℕ) → e ≡ Expression.constant t v → body_form scope e i ≡ leaf 1 (data_type_code t) (v % 65536) (v / 65536)
  unfolding in_body kept body_tree
  body_of_constant t v h = rw h

  pub body_of_me : e ≡ Expression.me → body_form scope e i ≡ leaf 2 0 0 0
  unfolding in_body kept body_tree
  body_of_me h = rw h

  pub body_of_field : (f : ℕ) → e ≡ Expression.field f → body_form scope e i ≡ leaf 3 f 0 0
  unfolding in_body kept body_tree
  body_of_field f h = rw h

  pub body_of_parameter : (k : ℕ) → e ≡ Expression.parameter k → body_form scope e i ≡ leaf 5 k 0 0
  unfolding in_body kept body_tree
  body_of_parameter k h = rw h

  pub body_of_entry : (f : ℕ) (key : Expression) → e ≡ Expression.entry f key → body_form scope e i ≡ one_child 4 f (body_form scope key i)
  unfolding in_body one_part body_tree
  body_of_entry f key h = rw h

  module _ (o : Operator) (left right : Expression) (h : e ≡ Expression.operator o left right) where
    pub body_of_operator : is_public scope e ≡ true
        → body_form scope e i ≡ two_children 6 (operator_code o) (body_form scope left i) (body_form scope right (i + body_count scope left))
    unfolding in_body two_parts body_tree
    body_of_operator p =
        let q : is_public scope (Expression.operator o left right) ≡ true = rw h at p in
        rw (h, q) (ap (λ (n : ℕ). two_children 6 (operator_code o) (body_form scope left i) (body_form scope right (i + n))) ((body_makes scope left).length i))

    pub body_of_supplied_operator : is_public scope e ≡ false → body_form scope e i ≡ leaf 9 0 i 0
    unfolding in_body supplying body_tree
    body_of_supplied_operator p = let q : is_public scope (Expression.operator o left right) ≡ false = rw h at p in rw (h, q)

  module _ (part : Expression) (h : e ≡ Expression.negation part) where
    pub body_of_negation : is_public scope e ≡ true → body_form scope e i ≡ one_child 7 0 (body_form scope part i)
    unfolding in_body one_part body_tree
    body_of_negation p = let q : is_public scope (Expression.negation part) ≡ true = rw h at p in rw (h, q)

    pub body_of_supplied_negation : is_public scope e ≡ false → body_form scope e i ≡ leaf 9 0 i 0
    unfolding in_body supplying body_tree
    body_of_supplied_negation p = let q : is_public scope (Expression.negation part) ≡ false = rw h at p in rw (h, q)

  pub body_of_reveal : (part : Expression) (o : Owner) → e ≡ Expression.reveal part o → body_form scope e i ≡ leaf 9 0 i 0
  unfolding in_body supplying body_tree
  body_of_reveal part o h = rw h
