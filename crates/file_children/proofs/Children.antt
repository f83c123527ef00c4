-- A node's children, and its sort, by its kind's number.
use Rattle.std.specs.Prelude.{◌≡◌, ◌&&◌, ◌||◌, ◌∷◌, ◌<◌, ◌≤◌}
use Rattle.kit.specs.Names.{refl, ap, sym, ◌∙◌, Bool, true, false, not, cond, or-true, List, [], ℕ, arith, eqb, leb, ltb, get_or, take}
use Rattle.kit.specs.Names.{eqb-true, ne_eqb, lt-leb, le-leb, leb-true, ltb-true, ltb-false, not-true}
use Rattle.definitions.specs.ContractFile.{NodeRecord, Kind, constant_kind, me_kind, field_kind, entry_kind, parameter_kind, operator_kind, negation_kind, reveal_kind, skip_kind, sequence_kind, assign_field_kind, assign_entry_kind, require_kind, conditional_kind, no_kind, kind_of, node_of_kind, node_of, expression_parts, statement_parts, children, is_expression, is_statement}
use Rattle.file_children.specs.Children.{node_of_same, children_of_kind, child_count, expression_count, parts, is_expression_kind, is_statement_kind}
use Rattle.file_children.proofs.Truth.{both_true}
use Rattle.file_children.proofs.Loops.{all_below, all_below_at}

unfoldable pub child_counts : List ℕ
child_counts = 0 ∷ 0 ∷ 0 ∷ 0 ∷ 1 ∷ 0 ∷ 2 ∷ 1 ∷ 1 ∷ 0 ∷ 0 ∷ 0 ∷ 0 ∷ 0 ∷ 0 ∷ 0 ∷ 0 ∷ 2 ∷ 1 ∷ 2 ∷ 1 ∷ 3 ∷ []

pub kind_of_high : (n : ℕ) → 22 ≤ n → kind_of n ≡ no_kind
unfolding kind_of
kind_of_high n h =
    let other : (m : ℕ) → leb m 21 ≡ true → eqb n m ≡ false = λ m low. ne_eqb n m (λ e. omega (arith, leb-true m 21 low)) in
    rw (other 1 refl, other 2 refl, other 3 refl, other 4 refl, other 5 refl, other 6 refl, other 7 refl, other 8 refl)
    (rw (other 16 refl, other 17 refl, other 18 refl, other 19 refl, other 20 refl, other 21 refl))

pub child_count_high : (n : ℕ) → 22 ≤ n → 0 ≡ child_count n
unfolding child_count node_of_kind expression_parts statement_parts
child_count_high n h = sym (ap children_of_kind (kind_of_high n h))

pub child_count_table : (n : ℕ) → n < 22 → get_or child_counts n 0 ≡ child_count n
unfolding child_count child_counts kind_of all_below node_of_kind expression_parts statement_parts
child_count_table n h = eqb-true _ _ (all_below_at (λ k. eqb (get_or child_counts k 0) (child_count k)) 22 refl n h)

-- All children but those of a sequence and of an if are due to be expressions.
expressions_by : (n : ℕ) (b : Bool) → ltb n 22 ≡ b → eqb n 17 || eqb n 21 || eqb (child_count n) (expression_count n) ≡ true
unfolding child_count expression_count kind_of all_below node_of_kind expression_parts statement_parts
expressions_by n true e = all_below_at (λ k. eqb k 17 || eqb k 21 || eqb (child_count k) (expression_count k)) 22 refl n (ltb-true n 22 e)
expressions_by n false e = rw (kind_of_high n (ltb-false n 22 e), or-true)

pub expressions_else : (n : ℕ) → (n ≡ 17 → ⊥) → (n ≡ 21 → ⊥) → child_count n ≡ expression_count n
expressions_else n a b = eqb-true _ _ (rw (ne_eqb n 17 a, ne_eqb n 21 b) at (expressions_by n (ltb n 22) refl))

-- A node's children are its first parts, as many as its kind has; and its sort is its kind's.
of_kind : (k : Kind) (r : NodeRecord) → (children (node_of_kind k r) ≡ take (children_of_kind k) (parts r))
    × (is_expression (node_of_kind k r) ≡ is_expression (node_of_same k)) × (is_statement (node_of_kind k r) ≡ is_statement (node_of_same k))
unfolding node_of_kind expression_parts statement_parts
of_kind constant_kind r = (refl, refl, refl)
of_kind me_kind r = (refl, refl, refl)
of_kind field_kind r = (refl, refl, refl)
of_kind entry_kind r = (refl, refl, refl)
of_kind parameter_kind r = (refl, refl, refl)
of_kind operator_kind r = (refl, refl, refl)
of_kind negation_kind r = (refl, refl, refl)
of_kind reveal_kind r = (refl, refl, refl)
of_kind skip_kind r = (refl, refl, refl)
of_kind sequence_kind r = (refl, refl, refl)
of_kind assign_field_kind r = (refl, refl, refl)
of_kind assign_entry_kind r = (refl, refl, refl)
of_kind require_kind r = (refl, refl, refl)
of_kind conditional_kind r = (refl, refl, refl)
of_kind no_kind r = (refl, refl, refl)

pub children_are : (r : NodeRecord) → children (node_of r) ≡ take (child_count r.kind) (parts r)
unfolding child_count
children_are r = (of_kind (kind_of r.kind) r).0

-- The sort of a node, by its kind's number.
abbrev same : Bool → Bool → Bool
same a b = cond a b (not b)

same_true : (a b : Bool) → same a b ≡ true → a ≡ b
same_true true b h = sym h
same_true false b h = sym (not-true b h)

abbrev expression_right : ℕ → Bool
expression_right k = same (is_expression (node_of_same (kind_of k))) (is_expression_kind k)

abbrev statement_right : ℕ → Bool
statement_right k = same (is_statement (node_of_same (kind_of k))) (is_statement_kind k)

sorts_right : (n : ℕ) (b : Bool) → ltb n 22 ≡ b → expression_right n && statement_right n ≡ true
unfolding kind_of all_below node_of_kind
sorts_right n true e = all_below_at (λ k. expression_right k && statement_right k) 22 refl n (ltb-true n 22 e)
sorts_right n false e =
    let h = ltb-false n 22 e in
    rw (kind_of_high n h, lt-leb n 8 (omega arith), lt-leb n 21 (omega arith), le-leb 1 n (omega arith), le-leb 16 n (omega arith))

sorts : (n : ℕ) → (expression_right n ≡ true) × (statement_right n ≡ true)
sorts n = both_true (expression_right n) (statement_right n) (sorts_right n (ltb n 22) refl)

pub expression_is : (r : NodeRecord) → is_expression (node_of r) ≡ is_expression_kind r.kind
expression_is r = (of_kind (kind_of r.kind) r).1 ∙ same_true _ _ (sorts r.kind).0

pub statement_is : (r : NodeRecord) → is_statement (node_of r) ≡ is_statement_kind r.kind
statement_is r = (of_kind (kind_of r.kind) r).2 ∙ same_true _ _ (sorts r.kind).1
