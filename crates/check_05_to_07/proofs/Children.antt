-- The loop over a node's children: what is left to look at.
use Rattle.std.specs.Prelude.{◌≡◌, ◌∷◌, ◌+◌, ◌-◌, ◌<◌, ◌≤◌}
use Rattle.kit.specs.Names.{refl, ap, sym, ◌∙◌, Bool, true, false, List, [], map, ℕ, zero, suc, max, arith, leb, ltb}
use Rattle.kit.specs.Names.{take, drop, ltb-true, ltb-false, leb-true}
use Rattle.definitions.specs.Basics.{largest}
use Rattle.file_decoded.specs.Slices.{number_at, node_from}
use Rattle.file_children.specs.Children.{child_count, parts}
use Rattle.definitions.specs.ContractFile.{kind_of, node_of_kind, expression_parts, statement_parts}
use Rattle.file_children.proofs.Children.{children_are, child_count_high}
use Rattle.file_children.proofs.Loops.{all_below, all_below_at}
use Rattle.check_05_uses.specs.Counting.{children_of}

-- From the one that is numbered i on, as many as are left.
abbrev pub rest : List ℕ → ℕ → ℕ → ℕ → List ℕ
rest nodes at i left = take left (drop i (parts (node_from nodes at)))

few : (n : ℕ) (b : Bool) → ltb n 22 ≡ b → child_count n ≤ 3
unfolding child_count kind_of all_below expression_parts node_of_kind statement_parts
few n true e = leb-true (child_count n) 3 (all_below_at (λ k. leb (child_count k) 3) 22 refl n (ltb-true n 22 e))
few n false e = omega (arith, child_count_high n (ltb-false n 22 e))

module _ (nodes : List ℕ) (at : ℕ) where
  pub at_most_three : (kind count : ℕ) → count ≡ child_count kind → count ≤ 3
  at_most_three kind count e = omega (arith, few kind (ltb kind 22) refl)

  pub rest_all : (kind count : ℕ) → kind ≡ number_at nodes at → count ≡ child_count kind → rest nodes at 0 count ≡ children_of (node_from nodes at)
  rest_all kind count e f = ap (λ (n : ℕ). take n (parts (node_from nodes at))) (f ∙ ap child_count e) ∙ sym (children_are (node_from nodes at))

  pub rest_step : (i left : ℕ) → i + left ≤ 3 → 0 < left → rest nodes at i left ≡ number_at nodes (at + 2 + i) ∷ rest nodes at (i + 1) (left - 1)
  rest_step i zero h g = absurd (omega arith)
  rest_step zero (suc l) h g =
      let e : suc l - 1 ≡ l = omega arith in
      let f : at + 2 + 0 ≡ at + 2 = omega arith in
      rw (e, f)
  rest_step (suc zero) (suc l) h g =
      let e : suc l - 1 ≡ l = omega arith in
      let f : at + 2 + 1 ≡ at + 3 = omega arith in
      rw (e, f)
  rest_step (suc (suc zero)) (suc l) h g =
      let e : suc l - 1 ≡ l = omega arith in
      let f : at + 2 + 2 ≡ at + 4 = omega arith in
      rw (e, f)
  rest_step (suc (suc (suc i))) (suc l) h g = absurd (omega arith)

  pub rest_end : (i left : ℕ) → left ≤ 0 → rest nodes at i left ≡ []
  rest_end i zero h = refl
  rest_end i (suc l) h = absurd (omega arith)

-- The largest of what is left and of what was met before.
pub largest_next : (f : ℕ → ℕ) (deepest next x : ℕ) (xs ys : List ℕ) (goal : ℕ) → ys ≡ x ∷ xs → max deepest (largest (map f ys)) ≡ goal
    → next ≡ max deepest (f x) → max next (largest (map f xs)) ≡ goal
unfolding largest
largest_next f deepest next x xs ys goal e inv n =
    let before : max deepest (max (f x) (largest (map f xs))) ≡ goal = rw e at inv in
    omega arith

pub largest_done : (f : ℕ → ℕ) (deepest : ℕ) (ys : List ℕ) (goal : ℕ) → ys ≡ [] → max deepest (largest (map f ys)) ≡ goal → deepest ≡ goal
unfolding largest
largest_done f deepest ys goal e inv =
    let before : max deepest 0 ≡ goal = rw e at inv in
    omega arith
