-- The loop that notes depths, and number 6 in what it has noted.
use Rattle.std.specs.Prelude.{◌≡◌, ◌∷◌, ◌+◌, ◌*◌, ◌<◌, ◌≤◌}
use Rattle.kit.specs.Names.{refl, ap, sym, ◌∙◌, Bool, true, false, List, [], map, ℕ, suc, arith, add-one, leb}
use Rattle.kit.specs.Names.{ltb, length, set, replicate, length-map, get_or_eq_default, lt-leb, ltb-true, ltb-false}
use Rattle.definitions.specs.Basics.{all, any, largest}
use Rattle.definitions.specs.ContractFile.{FunctionRecord, Sections, Node as Form, unknown_node, node_of, children, expression_parts, statement_parts, chain_length}
use Rattle.definitions.specs.Numbers.{names_nothing, too_deep}
use Rattle.theory_laws.proofs.Lists.{zeros_at}
use Rattle.theory_laws.proofs.TruthValues.{and_left, and_right}
use Rattle.theory_trees.proofs.Falls.{nodes_fall}
use Rattle.file_decoded.specs.Slices.{node_from, nodes_from}
use Rattle.file_decoded.proofs.Records.{node_within}
use Rattle.check_06_depth.specs.Chains.{ChildrenBelow, Chains, depth_in, root_too_deep}
use Rattle.check_06_depth.proofs.ChainLevels.{note}

-- The loop that notes depths.
pub chains_next : (count : ℕ) (nodes : List ℕ) (n at : ℕ) (depths : List ℕ) (deepest : ℕ)
    → ChildrenBelow (map node_of (nodes_from count nodes 0)) → Chains (map node_of (nodes_from count nodes 0)) n depths → n < count → count ≤ 512
    → at ≡ 5 * n → deepest ≡ largest (map (depth_in depths) (children (node_of (node_from nodes at))))
    → Chains (map node_of (nodes_from count nodes 0)) (n + 1) (set depths n (deepest + 1))
chains_next count nodes n at depths deepest below c h few e made =
    let there : at ≡ 0 + 5 * n = omega arith in
    let same = ap (λ (m : ℕ). node_of (node_from nodes m)) there ∙ sym (node_within count nodes 0 n h) in
    note (map node_of (nodes_from count nodes 0)) below n depths (deepest + 1) (omega arith) c
    (rw (add-one) (ap suc (made ∙ ap (λ m. largest (map (depth_in depths) (children m))) same)))

pub chains_done : (nodes : List Form) (n count : ℕ) (depths : List ℕ) → Chains nodes n depths → n ≤ count → count ≤ n → Chains nodes count depths
chains_done nodes n count depths c g h =
    let e : n ≡ count = omega arith in
    rw e at c

-- What number 4 has settled.
none_above : (n : ℕ) (xs : List ℕ) → all (λ x. ltb x n) xs ≡ true → any (leb n) xs ≡ false
unfolding any all
none_above n [] h = refl
none_above n (x ∷ xs) h =
    rw (lt-leb n x (ltb-true x n (and_left (ltb x n) (all (λ y. ltb y n) xs) h)))
    (none_above n xs (and_right (ltb x n) (all (λ y. ltb y n) xs) h))

pub children_below : (s : Sections) → names_nothing s ≡ false → ChildrenBelow (map node_of s.nodes)
children_below s named = record { each = λ n. none_above n _ ((nodes_fall s named).below n) }

-- Number 6 in the depths. A root that is no node has a chain of one, and no depth is noted for it.
asked_same : (nodes : List Form) (depths : List ℕ) → Chains nodes (length nodes) depths → (n : ℕ) (b : Bool) → ltb n (length nodes) ≡ b
    → ltb 64 (depth_in depths n) ≡ ltb 64 (chain_length (suc n) nodes n)
unfolding chain_length largest expression_parts statement_parts
asked_same nodes depths c n true e = ap (ltb 64) (c.each n (ltb-true n (length nodes) e))
asked_same nodes depths c n false e =
    let past = ltb-false n (length nodes) e in
    rw (c.later n past, get_or_eq_default nodes unknown_node past)

any_same : (t u : FunctionRecord → Bool) (xs : List FunctionRecord) → ((x : FunctionRecord) → t x ≡ u x) → any t xs ≡ any u xs
unfolding any
any_same t u [] e = refl
any_same t u (x ∷ xs) e = rw (e x, any_same t u xs e)

pub depths_noted : (s : Sections) (count : ℕ) → length s.nodes ≡ count → (depths : List ℕ) → Chains (map node_of s.nodes) count depths
    → any (root_too_deep depths) s.functions ≡ too_deep s
unfolding too_deep
depths_noted s count long depths c =
    let nodes = map node_of s.nodes in
    any_same (root_too_deep depths) (λ r. ltb 64 (chain_length (suc r.root) nodes r.root)) s.functions
    (λ r. asked_same nodes depths (rw (length-map s.nodes node_of ∙ long) c) r.root (ltb r.root (length nodes)) refl)

unfoldable pub no_depths : List ℕ
no_depths = replicate 512 0

pub none_noted : (nodes : List Form) → Chains nodes 0 no_depths
unfolding no_depths
none_noted nodes = record {
  each = λ n h. absurd (omega arith);
  later = λ n h. zeros_at 512 n;
  bounded = record { each = λ n. omega (arith, zeros_at 512 n); long = refl };
}
