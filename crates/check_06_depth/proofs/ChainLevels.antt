-- Chains of nodes whose children are below them: levels that are enough give the same length.
use Rattle.std.specs.Prelude.{◌≡◌, ◌∷◌, ◌+◌, ◌<◌, ◌≤◌}
use Rattle.kit.specs.Names.{refl, ap, sym, ◌∙◌, Bool, true, false, List, [], map, ℕ, zero, suc, arith, max-le, eqb}
use Rattle.kit.specs.Names.{leb, length, set, length-set, get_or-set_same, get_or-set_other, eqb-true, eqb-false, leb-false}
use Rattle.definitions.specs.Basics.{any, largest}
use Rattle.definitions.specs.ContractFile.{Node, node_at, children, chain_length}
use Rattle.file_children.proofs.Truth.{either_false}
use Rattle.check_06_depth.specs.Chains.{ChildrenBelow, Chains, depth_in}

-- Two functions that agree below n agree on numbers that are below n.
map_below : (f g : ℕ → ℕ) (n : ℕ) (xs : List ℕ) → any (leb n) xs ≡ false → ((k : ℕ) → k < n → f k ≡ g k) → map f xs ≡ map g xs
unfolding any
map_below f g n [] h e = refl
map_below f g n (x ∷ xs) h e =
    let both = either_false (leb n x) (any (leb n) xs) h in
    rw (e x (leb-false n x both.0), map_below f g n xs both.1 e)

largest_bound : (f : ℕ → ℕ) (bound : ℕ) (xs : List ℕ) → ((k : ℕ) → f k ≤ bound) → largest (map f xs) ≤ bound
unfolding largest
largest_bound f bound [] h = omega arith
largest_bound f bound (x ∷ xs) h = max-le (h x) (largest_bound f bound xs h)

chain_bound : (levels : ℕ) (nodes : List Node) (n : ℕ) → chain_length levels nodes n ≤ levels
unfolding chain_length
chain_bound zero nodes n = omega arith
chain_bound (suc levels) nodes n =
    let h = largest_bound (chain_length levels nodes) levels (children (node_at nodes n)) (chain_bound levels nodes) in
    omega arith

module _ (nodes : List Node) (below : ChildrenBelow nodes) where
  chain_same : (f g n : ℕ) → n < f → n < g → chain_length f nodes n ≡ chain_length g nodes n
  unfolding chain_length
  chain_same zero g n p q = absurd (omega arith)
  chain_same (suc f) zero n p q = absurd (omega arith)
  chain_same (suc f) (suc g) n p q =
      ap (λ (xs : List ℕ). suc (largest xs))
      (map_below (chain_length f nodes) (chain_length g nodes) n (children (node_at nodes n)) (below.each n)
      (λ k h. chain_same f g k (omega arith) (omega arith)))

  -- The depth of a node, from those of the nodes below it.
  chain_next : (n : ℕ) (depths : List ℕ) → ((k : ℕ) → k < n → depth_in depths k ≡ chain_length (suc k) nodes k)
      → suc (largest (map (depth_in depths) (children (node_at nodes n)))) ≡ chain_length (suc n) nodes n
  unfolding chain_length
  chain_next n depths known =
      ap (λ (xs : List ℕ). suc (largest xs))
      (map_below (depth_in depths) (chain_length n nodes) n (children (node_at nodes n)) (below.each n)
      (λ k h. known k h ∙ chain_same (suc k) n k (omega arith) h))

  pub note : (n : ℕ) (depths : List ℕ) (chain : ℕ) → n < 512 → Chains nodes n depths
      → chain ≡ suc (largest (map (depth_in depths) (children (node_at nodes n)))) → Chains nodes (n + 1) (set depths n chain)
  note n depths chain h c e =
      let is = e ∙ chain_next n depths c.each in
      let small : chain ≤ 512 = (let b = chain_bound (suc n) nodes n in omega arith) in
      let inside : n < length depths = omega (arith, c.bounded.long) in
      record {
        each = λ k l. noted (eqb k n) k n depths chain inside refl (λ same. is ∙ ap (λ (m : ℕ). chain_length (suc m) nodes m) (sym same))
            (λ other. c.each k (omega (arith, other)));
        later = λ k l. get_or-set_other depths n k chain 0 (λ same. omega arith) ∙ c.later k (omega arith);
        bounded = record {
          each = λ k. kept (eqb k n) k n depths chain inside refl small (c.bounded.each k);
          long = length-set depths n chain
              ∙ c.bounded.long;
        };
      }
    where
      noted : (b : Bool) (k n : ℕ) (depths : List ℕ) (chain : ℕ) → n < length depths → eqb k n ≡ b → (k ≡ n → chain ≡ chain_length (suc k) nodes k)
          → ((k ≡ n → ⊥) → depth_in depths k ≡ chain_length (suc k) nodes k) → depth_in (set depths n chain) k ≡ chain_length (suc k) nodes k
      noted true k n depths chain h e same other =
          let s = eqb-true k n e in
          ap (depth_in (set depths n chain)) s ∙ get_or-set_same depths n chain 0 h ∙ same s
      noted false k n depths chain h e same other =
          let d = eqb-false k n e in
          get_or-set_other depths n k chain 0 d ∙ other d

      kept : (b : Bool) (k n : ℕ) (depths : List ℕ) (chain : ℕ) → n < length depths → eqb k n ≡ b → chain ≤ 512 → depth_in depths k ≤ 512
          → depth_in (set depths n chain) k ≤ 512
      kept true k n depths chain h e small old =
          let s = eqb-true k n e in
          let new : depth_in (set depths n chain) k ≡ chain = ap (depth_in (set depths n chain)) s ∙ get_or-set_same depths n chain 0 h in
          omega arith
      kept false k n depths chain h e small old =
          let same = get_or-set_other depths n k chain 0 (eqb-false k n e) in
          omega arith
