-- Where every node is used once, the trees of the roots have together no more nodes than there are.
use Rattle.std.specs.Prelude.{◌≡◌, ◌∷◌, ◌++◌, ◌+◌, ◌*◌, ◌≤◌, ◌<◌}
use Rattle.kit.specs.Names.{refl, ap, ◌∙◌, Bool, true, false, cond, List, [], append-nil, ℕ, zero, suc}
use Rattle.kit.specs.Names.{max, arith, zero-mul, one-mul, add-mul, eqb, ltb, length, take, take-suc, take-length, eqb-true, eqb-false}
use Rattle.kit.specs.Names.{ltb-true}
use Rattle.definitions.specs.Basics.{all, count_if, flat_map}
use Rattle.definitions.specs.ContractFile.{NodeRecord, Kind, constant_kind, me_kind, field_kind, entry_kind, parameter_kind, operator_kind, negation_kind, reveal_kind, skip_kind, sequence_kind, assign_field_kind, assign_entry_kind, require_kind, conditional_kind, no_kind, kind_of, Node, unknown_node, node_of_kind, node_at, expression_parts, statement_parts, children, expression_of, statement_of}
use Rattle.theory_laws.proofs.Lists.{count_append, flat_append}
use Rattle.theory_laws.proofs.TruthValues.{and_left, and_right}
use Rattle.theory_trees.specs.Trees.{expression_in, statement_in, IsRead, Falling}
use Rattle.theory_trees.proofs.Unfolding.{expression_unfolds, statement_unfolds}
use Rattle.theory_trees.specs.Sizes.{expression_size, statement_size}
use Rattle.write_room.specs.Counting.{sum_of, Below, without}

-- Sums and counts over lists put together.
sum_append : (f : ℕ → ℕ) (a b : List ℕ) → sum_of f (a ++ b) ≡ sum_of f a + sum_of f b
unfolding sum_of
sum_append f [] b = omega arith
sum_append f (x ∷ a) b = let h = sum_append f a b in omega arith

below_append : (k : ℕ) (a b : List ℕ) → Below k a → Below k b → Below k (a ++ b)
unfolding Below
below_append k [] b h g = g
below_append k (x ∷ a) b h g = (h.0, below_append k a b h.1 g)

-- The copies of k, and the rest.
split_step : (test : Bool) (k x : ℕ) (f : ℕ → ℕ) (count total : ℕ) (later : List ℕ) → (test ≡ true → k ≡ x) → total ≡ count * f k + sum_of f later
    → f x + total ≡ (cond test 1 0 + count) * f k + sum_of f (cond test later (x ∷ later))
unfolding sum_of
split_step true k x f count total later same h =
    let p = ap f (same refl) in let q = add-mul 1 count (f k) in let r = one-mul (f k) in omega arith
split_step false k x f count total later same h =
    let q = add-mul 0 count (f k) in let r = zero-mul (f k) in omega arith

split : (f : ℕ → ℕ) (k : ℕ) (xs : List ℕ) → sum_of f xs ≡ count_if (eqb k) xs * f k + sum_of f (without k xs)
unfolding sum_of count_if without
split f k [] = let r = zero-mul (f k) in omega arith
split f k (x ∷ xs) = split_step (eqb k x) k x f (count_if (eqb k) xs) (sum_of f xs) (without k xs) (eqb-true k x) (split f k xs)

without_count_step : (test : Bool) (n x total : ℕ) (later : List ℕ) → count_if (eqb n) later ≤ total → count_if (eqb n) (cond test later (x ∷ later)) ≤ cond (eqb n x) 1 0 + total
unfolding count_if
without_count_step true n x total later h = omega arith
without_count_step false n x total later h = omega arith

without_count : (n k : ℕ) (xs : List ℕ) → count_if (eqb n) (without k xs) ≤ count_if (eqb n) xs
unfolding count_if without
without_count n k [] = omega arith
without_count n k (x ∷ xs) = without_count_step (eqb k x) n x (count_if (eqb n) xs) (without k xs) (without_count n k xs)

without_below_step : (test : Bool) (k x : ℕ) (later : List ℕ) → eqb k x ≡ test → x < suc k → Below k later → Below k (cond test later (x ∷ later))
unfolding Below
without_below_step true k x later e h g = g
without_below_step false k x later e h g = let differ = eqb-false k x e in (omega arith, g)

without_below : (k : ℕ) (xs : List ℕ) → Below (suc k) xs → Below k (without k xs)
unfolding Below without
without_below k [] h = h
without_below k (x ∷ xs) h = without_below_step (eqb k x) k x (without k xs) refl h.0 (without_below k xs h.1)

all_below_law : (k : ℕ) (xs : List ℕ) → all (λ x. ltb x k) xs ≡ true → Below k xs
unfolding Below all
all_below_law k [] h = tt
all_below_law k (x ∷ xs) h = (ltb-true x k (and_left (ltb x k) _ h), all_below_law k xs (and_right (ltb x k) _ h))

-- A size that is at most one more than those of the children.
module _ (nodes : List Node) (falling : Falling nodes) (f : ℕ → ℕ) (grows : (n : ℕ) → f n ≤ 1 + sum_of f (children (node_at nodes n))) where
  abbrev uses_below : ℕ → ℕ → ℕ
  uses_below k n = count_if (eqb n) (flat_map children (take k nodes))

  uses_suc : (k n : ℕ) → k < length nodes → uses_below (suc k) n ≡ uses_below k n + count_if (eqb n) (children (node_at nodes k))
  unfolding flat_map
  uses_suc k n h =
      ap (λ (ns : List Node). count_if (eqb n) (flat_map children ns)) (take-suc nodes k unknown_node h)
      ∙ ap (count_if (eqb n)) (flat_append children (take k nodes) (node_at nodes k ∷ []))
      ∙ count_append (eqb n) (flat_map children (take k nodes)) (children (node_at nodes k) ++ [])
      ∙ ap (λ (xs : List ℕ). uses_below k n + count_if (eqb n) xs) (append-nil (children (node_at nodes k)))

  once_or_never : (k count total rest : ℕ) → count ≤ 1 → total ≡ count * f k + rest → rest ≤ k → sum_of f (children (node_at nodes k)) + rest ≤ k → total ≤ suc k
  once_or_never k zero total rest c h a b = let z = zero-mul (f k) in omega arith
  once_or_never k (suc zero) total rest c h a b = let o = one-mul (f k) in let g = grows k in omega arith
  once_or_never k (suc (suc count)) total rest c h a b = absurd (omega arith)

  pub covered : (k : ℕ) → k ≤ length nodes → (xs : List ℕ) → Below k xs → ((n : ℕ) → n < k → count_if (eqb n) xs + uses_below k n ≤ 1) → sum_of f xs ≤ k
  unfolding sum_of Below
  covered zero h [] b once = omega arith
  covered zero h (x ∷ xs) b once = absurd (omega (arith, b.0))
  covered (suc k) h xs b once =
      let below = without_below k xs b in
      let parts = children (node_at nodes k) in
      let inside = all_below_law k parts (falling.below k) in
      let last = once k (omega arith) in
      let counted : (n : ℕ) → n < k → count_if (eqb n) (without k xs) + count_if (eqb n) parts + uses_below k n ≤ 1 =
      λ n l. let a = once n (omega arith) in let w = without_count n k xs in let u = uses_suc k n (omega arith) in omega arith in
      let rest = covered k (omega arith) (without k xs) below (λ n l. let a = counted n l in omega arith) in
      let both = covered k (omega arith) (parts ++ without k xs) (below_append k parts (without k xs) inside below)
      (λ n l. let a = counted n l in let c = count_append (eqb n) parts (without k xs) in omega arith) in
      let s = sum_append f parts (without k xs) in
      once_or_never k (count_if (eqb k) xs) (sum_of f xs) (sum_of f (without k xs)) (omega arith) (split f k xs) rest (omega arith)

-- The size of the tree of a node, as an expression or as a statement.
module _ (nodes : List Node) (falling : Falling nodes) where
  abbrev pub tree_size : ℕ → ℕ
  tree_size n = max (expression_size (expression_in nodes n)) (statement_size (statement_in nodes n))

  expression_grows : (k : Kind) (r : NodeRecord) → expression_size (expression_of (node_of_kind k r) (expression_in nodes)) ≤ 1 + sum_of tree_size (children (node_of_kind k r))
  unfolding node_of_kind expression_size expression_of sum_of expression_parts statement_parts
  expression_grows constant_kind r = omega arith
  expression_grows me_kind r = omega arith
  expression_grows field_kind r = omega arith
  expression_grows entry_kind r = omega arith
  expression_grows parameter_kind r = omega arith
  expression_grows operator_kind r = omega arith
  expression_grows negation_kind r = omega arith
  expression_grows reveal_kind r = omega arith
  expression_grows skip_kind r = omega arith
  expression_grows sequence_kind r = omega arith
  expression_grows assign_field_kind r = omega arith
  expression_grows assign_entry_kind r = omega arith
  expression_grows require_kind r = omega arith
  expression_grows conditional_kind r = omega arith
  expression_grows no_kind r = omega arith

  statement_grows : (k : Kind) (r : NodeRecord)
      → statement_size (statement_of (node_of_kind k r) (expression_in nodes) (statement_in nodes)) ≤ 1 + sum_of tree_size (children (node_of_kind k r))
  unfolding node_of_kind statement_size statement_of sum_of expression_parts statement_parts
  statement_grows constant_kind r = omega arith
  statement_grows me_kind r = omega arith
  statement_grows field_kind r = omega arith
  statement_grows entry_kind r = omega arith
  statement_grows parameter_kind r = omega arith
  statement_grows operator_kind r = omega arith
  statement_grows negation_kind r = omega arith
  statement_grows reveal_kind r = omega arith
  statement_grows skip_kind r = omega arith
  statement_grows sequence_kind r = omega arith
  statement_grows assign_field_kind r = omega arith
  statement_grows assign_entry_kind r = omega arith
  statement_grows require_kind r = omega arith
  statement_grows conditional_kind r = omega arith
  statement_grows no_kind r = omega arith

  node_grows : (x : Node) → IsRead x
      → (expression_size (expression_of x (expression_in nodes)) ≤ 1 + sum_of tree_size (children x))
      × (statement_size (statement_of x (expression_in nodes) (statement_in nodes)) ≤ 1 + sum_of tree_size (children x))
  node_grows x (r, e) = rw e (expression_grows (kind_of r.kind) r, statement_grows (kind_of r.kind) r)

  pub tree_grows : (n : ℕ) → tree_size n ≤ 1 + sum_of tree_size (children (node_at nodes n))
  tree_grows n =
      let grown = node_grows (node_at nodes n) (falling.read n) in
      let a = grown.0 in
      let b = grown.1 in
      let c = ap expression_size (expression_unfolds nodes falling n) in
      let d = ap statement_size (statement_unfolds nodes falling n) in
      omega arith

  pub trees_covered : (roots : List ℕ) → Below (length nodes) roots → ((n : ℕ) → n < length nodes → count_if (eqb n) roots + count_if (eqb n) (flat_map children nodes) ≤ 1)
      → sum_of tree_size roots ≤ length nodes
  trees_covered roots below once =
      covered nodes falling tree_size tree_grows (length nodes) (omega arith) roots below
      (λ n l. let a = once n l in let t = ap (λ (ns : List Node). count_if (eqb n) (flat_map children ns)) (take-length nodes) in omega arith)
