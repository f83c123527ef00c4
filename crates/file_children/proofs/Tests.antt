-- Whether some child of a node passes a test, by how many children its kind has.
use Rattle.std.specs.Prelude.{◌≡◌, ◌-◌, ◌<◌, ◌≤◌}
use Rattle.kit.specs.Names.{ap, sym, ◌∙◌, Bool, true, false, List, ℕ, suc, arith, or-false}
use Rattle.definitions.specs.Basics.{any}
use Rattle.definitions.specs.ContractFile.{NodeRecord, node_of, children}
use Rattle.file_children.specs.Children.{child_count}
use Rattle.file_children.proofs.ByCount.{children_by, no_children, one_child_law, two_children_law, three_children_law}

module _ (test : ℕ → Bool) (r : NodeRecord) (count : ℕ) (is : count ≡ child_count r.kind) where
  by_list : (xs : List ℕ) (answer : Bool) → children (node_of r) ≡ xs → any test xs ≡ answer → answer ≡ any test (children (node_of r))
  by_list xs answer e a = sym (ap (any test) e ∙ a)

  pub no_child : count < 1 → false ≡ any test (children (node_of r))
  unfolding any
  no_child h = sym (ap (any test) (no_children r count is h))

  pub first_child : 1 ≤ count → test r.first ≡ true → true ≡ any test (children (node_of r))
  unfolding any
  first_child h t = by_list _ true (children_by r count is (suc (count - 1)) (omega arith)) (rw t)

  pub only_first : 1 ≤ count → count < 2 → test r.first ≡ false → false ≡ any test (children (node_of r))
  unfolding any
  only_first h l t = by_list _ false (one_child_law r count is h l) (rw t)

  pub second_child : 2 ≤ count → test r.first ≡ false → test r.second ≡ true → true ≡ any test (children (node_of r))
  unfolding any
  second_child h t u = by_list _ true (children_by r count is (suc (suc (count - 2))) (omega arith)) (rw (t, u))

  pub only_two : 2 ≤ count → count < 3 → test r.first ≡ false → test r.second ≡ false → false ≡ any test (children (node_of r))
  unfolding any
  only_two h l t u = by_list _ false (two_children_law r count is h l) (rw (t, u))

  pub third_child : 3 ≤ count → test r.first ≡ false → test r.second ≡ false → test r.third ≡ any test (children (node_of r))
  unfolding any
  third_child h t u = by_list _ (test r.third) (three_children_law r count is h) (rw (t, u, or-false (test r.third)))
