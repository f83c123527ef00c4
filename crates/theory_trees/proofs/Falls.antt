-- A file whose numbers name something, number 4, has nodes that fall from parent to child.
use Rattle.std.specs.Prelude.{◌≡◌, ◌||◌, ◌∷◌, ◌+◌}
use Rattle.kit.specs.Names.{refl, Bool, true, false, List, [], map, ℕ, zero, suc, arith, leb, ltb, length, leb-false}
use Rattle.kit.specs.Names.{lt-ltb}
use Rattle.definitions.specs.Basics.{all, any, any_numbered}
use Rattle.definitions.specs.ContractFile.{NodeRecord, Sections, field_of, node_of, node_at, children, fields_named, expression_parts, statement_parts}
use Rattle.definitions.specs.Numbers.{names_nothing, field_of_declared_owner}
use Rattle.theory_laws.proofs.TruthValues.{or_left, or_right}
use Rattle.theory_trees.specs.Trees.{Falling}
use Rattle.theory_trees.proofs.Unfolding.{nodes_read_law}

pub none_above : (n : ℕ) (xs : List ℕ) → any (leb n) xs ≡ false → all (λ x. ltb x n) xs ≡ true
unfolding any all
none_above n [] h = refl
none_above n (x ∷ xs) h =
    rw (lt-ltb x n (leb-false n x (or_left (leb n x) (any (leb n) xs) h))) (none_above n xs (or_right (leb n x) (any (leb n) xs) h))

abbrev unsettled : ℕ → ℕ → NodeRecord → Bool
unsettled fields n r = any (leb fields) (fields_named (node_of r)) || any (leb n) (children (node_of r))

fall_from : (fields from : ℕ) (rs : List NodeRecord) → any_numbered (unsettled fields) from rs ≡ false
    → (n : ℕ) → all (λ child. ltb child (from + n)) (children (node_at (map node_of rs) n)) ≡ true
unfolding any_numbered all expression_parts statement_parts
fall_from fields from [] h n = refl
fall_from fields from (r ∷ rs) h zero =
    let here = or_left (unsettled fields from r) (any_numbered (unsettled fields) (suc from) rs) h in
    let e : from + 0 ≡ from = omega arith in
    rw e (none_above from (children (node_of r)) (or_right (any (leb fields) (fields_named (node_of r))) (any (leb from) (children (node_of r))) here))
fall_from fields from (r ∷ rs) h (suc n) =
    let e : from + suc n ≡ suc from + n = omega arith in
    rw e (fall_from fields (suc from) rs (or_right (unsettled fields from r) (any_numbered (unsettled fields) (suc from) rs) h) n)

pub nodes_fall : (s : Sections) → names_nothing s ≡ false → Falling (map node_of s.nodes)
unfolding names_nothing
nodes_fall s h =
    let fields = length s.fields in
    let owners = any (λ r. any (leb fields) (field_of_declared_owner (field_of r).owner)) s.fields in
    let roots = any (λ r. leb (length s.nodes) r.root) s.functions in
    let settled = or_right (owners || roots) (any_numbered (unsettled fields) 0 s.nodes) h in
    record { read = nodes_read_law s.nodes; below = λ n. let e : 0 + n ≡ n = omega arith in rw e at (fall_from fields 0 s.nodes settled n) }
