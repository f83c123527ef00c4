-- The tree of a circuit's form, by the expression's kind, as code learns it.
use Rattle.std.specs.Prelude.{◌≡◌, ◌&&◌, ◌++◌, ◌+◌, ◌%◌, ◌/◌}
use Rattle.kit.specs.Names.{refl, ap, true, false, ℕ, arith, add-zero, length, length-append}
use Rattle.definitions.specs.ContractFile.{DataType, Owner, everyone, owned_by, Operator, Expression, Scope, operator_code, is_division, is_everyone, data_type_code}
use Rattle.definitions.specs.Owners.{owner_of, is_public}
use Rattle.definitions.specs.Rewriting.{kept, one_part, two_parts, read_form, reading, in_body, in_circuit, leaf, one_child, two_children, circuit_tree}
use Rattle.write_variable_counts.specs.Counts.{body_count, circuit_count}
use Rattle.write_variable_counts.proofs.Counts.{body_makes, circuit_makes}
use Rattle.write_reads.specs.Forms.{circuit_form, read_kind}

read_tree : (o : Owner) (j : ℕ) → circuit_tree (read_form o j) ≡ leaf (read_kind (is_everyone o)) 0 j 0
unfolding circuit_tree
read_tree everyone j = refl
read_tree (owned_by n) j = refl

module _ (scope : Scope) (e : Expression) (i : ℕ) where
  pub circuit_of_constant : (t : DataType) (v : ℕ) → e ≡ Expression.constant t v → circuit_form scope e i ≡ leaf 1 (data_type_code t) (v % 65536) (v / 65536)
  unfolding in_circuit kept circuit_tree
  circuit_of_constant t v h = rw h

  pub circuit_of_me : e ≡ Expression.me → circuit_form scope e i ≡ leaf 2 0 0 0
  unfolding in_circuit kept circuit_tree
  circuit_of_me h = rw h

  pub circuit_of_field : (f : ℕ) → e ≡ Expression.field f → circuit_form scope e i ≡ leaf (read_kind (is_public scope e)) 0 i 0
  unfolding in_circuit kept reading
  circuit_of_field f h = rw (h, add-zero) (read_tree (owner_of scope (Expression.field f)) i)

  pub circuit_of_parameter : (k : ℕ) → e ≡ Expression.parameter k → circuit_form scope e i ≡ leaf (read_kind (is_public scope e)) 0 i 0
  unfolding in_circuit kept reading
  circuit_of_parameter k h = rw (h, add-zero) (read_tree (owner_of scope (Expression.parameter k)) i)

  pub circuit_of_entry : (f : ℕ) (key : Expression) → e ≡ Expression.entry f key
      → circuit_form scope e i ≡ leaf (read_kind (is_public scope e)) 0 (i + body_count scope key) 0
  unfolding in_circuit one_part reading
  circuit_of_entry f key h = rw (h, (body_makes scope key).length i) (read_tree (owner_of scope (Expression.entry f key)) (i + body_count scope key))

  module _ (o : Operator) (left right : Expression) (h : e ≡ Expression.operator o left right) where
    pub circuit_of_division : is_public scope e && is_division o ≡ true → circuit_form scope e i ≡ leaf 9 0 (i + body_count scope left + body_count scope right) 0
    unfolding in_circuit two_parts reading circuit_tree
    circuit_of_division p =
        let q : is_public scope (Expression.operator o left right) && is_division o ≡ true = rw h at p in
        let a = (in_body (owner_of scope) left i).variables in
        let b = (in_body (owner_of scope) right (i + length a)).variables in
        let first : length a ≡ body_count scope left = (body_makes scope left).length i in
        let second : length b ≡ body_count scope right = (body_makes scope right).length (i + length a) in
        let total : i + length (a ++ b) ≡ i + body_count scope left + body_count scope right = omega (arith, length-append a b) in
        rw (h, q) (ap (λ (n : ℕ). leaf 9 0 n 0) total)

    pub circuit_of_operator : is_public scope e && is_division o ≡ false
        → circuit_form scope e i ≡ two_children 6 (operator_code o) (circuit_form scope left i) (circuit_form scope right (i + circuit_count scope left))
    unfolding in_circuit two_parts circuit_tree
    circuit_of_operator p =
        let q : is_public scope (Expression.operator o left right) && is_division o ≡ false = rw h at p in
        rw (h, q) (ap (λ (n : ℕ). two_children 6 (operator_code o) (circuit_form scope left i) (circuit_form scope right (i + n))) ((circuit_makes scope left).length i))

  pub circuit_of_negation : (part : Expression) → e ≡ Expression.negation part → circuit_form scope e i ≡ one_child 7 0 (circuit_form scope part i)
  unfolding in_circuit one_part circuit_tree
  circuit_of_negation part h = rw h

  pub circuit_of_reveal : (part : Expression) (o : Owner) → e ≡ Expression.reveal part o → circuit_form scope e i ≡ circuit_form scope part i
  unfolding in_circuit
  circuit_of_reveal part o h = rw h
