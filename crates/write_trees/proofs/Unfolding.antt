-- The tree of a node unfolds into its children's trees: more levels than a node's number change nothing.
use Rattle.std.specs.Prelude.{◌≡◌, ◌<◌}
use Rattle.kit.specs.Names.{refl, ap, ap₂, List, ℕ, zero, suc, arith}
use Rattle.definitions.specs.ContractFile.{NodeRecord}
use Rattle.definitions.specs.Rewriting.{Tree, one_child, two_children, three_children, setting}
use Rattle.write_trees.specs.Trees.{Form, leaf_form, one_form, two_form, three_form, setting_form, form_of, record_at, tree_of, tree_at, tree_in, FallsBy, Falling}

-- Two readings of the children agree below n, so the node's tree is the same by either.
module _ (n : ℕ) (f g : ℕ → Tree) (same : (m : ℕ) → m < n → f m ≡ g m) where
  tree_same : (form : Form) (r : NodeRecord) → FallsBy n form r → tree_of form r f ≡ tree_of form r g
  unfolding tree_of
  tree_same leaf_form r h = refl
  tree_same one_form r h = ap (one_child r.kind r.arg) (same r.first h)
  tree_same two_form r h = ap₂ (two_children r.kind r.arg) (same r.first h.0) (same r.second h.1)
  tree_same three_form r h =
      λ i. three_children r.kind (same r.first h.0 i) (same r.second h.1.0 i) (same r.third h.1.1 i)
  tree_same setting_form r h = ap (setting r.first) (same r.second h)

module _ (nodes : List NodeRecord) (falling : Falling nodes) where
  pub tree_levels : (k m n : ℕ) → n < k → n < m → tree_at k nodes n ≡ tree_at m nodes n
  unfolding tree_at
  tree_levels zero m n a b = absurd (omega arith)
  tree_levels (suc k) zero n a b = absurd (omega arith)
  tree_levels (suc k) (suc m) n a b =
      tree_same n (tree_at k nodes) (tree_at m nodes) (λ c h. tree_levels k m c (omega arith) (omega arith))
      (form_of (record_at nodes n).kind) (record_at nodes n) (falling.below n)

  pub tree_unfolds : (n : ℕ) → tree_in nodes n ≡ tree_of (form_of (record_at nodes n).kind) (record_at nodes n) (tree_in nodes)
  unfolding tree_at
  tree_unfolds n =
      tree_same n (tree_at n nodes) (tree_in nodes) (λ c h. tree_levels n (suc c) c h (omega arith))
      (form_of (record_at nodes n).kind) (record_at nodes n) (falling.below n)
