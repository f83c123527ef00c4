-- A node's children as a list, by how many its kind has.
use Rattle.std.specs.Prelude.{◌≡◌, ◌∷◌, ◌<◌, ◌≤◌}
use Rattle.kit.specs.Names.{refl, ap, sym, ◌∙◌, [], ℕ, arith, take, take_all}
use Rattle.definitions.specs.ContractFile.{NodeRecord, node_of, children}
use Rattle.file_children.specs.Children.{child_count, parts}
use Rattle.file_children.proofs.Children.{children_are}

module _ (r : NodeRecord) (count : ℕ) (is : count ≡ child_count r.kind) where
  pub children_by : (n : ℕ) → count ≡ n → children (node_of r) ≡ take n (parts r)
  children_by n e = children_are r ∙ ap (λ (m : ℕ). take m (parts r)) (sym is ∙ e)

  pub no_children : count < 1 → children (node_of r) ≡ []
  no_children h = children_by 0 (omega arith)

  pub one_child_law : 1 ≤ count → count < 2 → children (node_of r) ≡ r.first ∷ []
  one_child_law g h = children_by 1 (omega arith)

  pub two_children_law : 2 ≤ count → count < 3 → children (node_of r) ≡ r.first ∷ r.second ∷ []
  two_children_law g h = children_by 2 (omega arith)

  pub three_children_law : 3 ≤ count → children (node_of r) ≡ r.first ∷ r.second ∷ r.third ∷ []
  three_children_law g = children_by count refl ∙ take_all count (parts r) g
