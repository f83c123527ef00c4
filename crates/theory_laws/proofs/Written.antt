-- How much rewriting makes: variables and claims of openings, nodes of trees, bytes of nodes.
use Rattle.std.specs.Prelude.{◌≡◌, ◌∷◌, ◌++◌, ◌+◌, ◌*◌}
use Rattle.kit.specs.Names.{refl, ap, List, [], ℕ, suc, arith, length, length-append}
use Rattle.definitions.specs.Basics.{flat_map}
use Rattle.definitions.specs.ContractFile.{NodeRecord}
use Rattle.definitions.specs.Rewriting.{always, held_under, openings, Tree, leaf, one_child, two_children, three_children, setting, size, sizes, numbered, numbered_all, node_bytes}

-- One variable and one claim for each private parameter.
pub opening_count : (ks : List ℕ) (i : ℕ) → length (openings ks i).variables ≡ length ks
unfolding openings
opening_count [] i = refl
opening_count (k ∷ ks) i = ap suc (opening_count ks (suc i))

pub claim_count : (ks : List ℕ) (i : ℕ) → length (held_under always (openings ks i).claims) ≡ length ks
unfolding openings
claim_count [] i = refl
claim_count (k ∷ ks) i = ap suc (claim_count ks (suc i))

-- As many nodes as the trees have, and eight bytes for each.
pub sizes_append : (a b : List Tree) → sizes (a ++ b) ≡ sizes a + sizes b
unfolding sizes
sizes_append [] b = omega arith
sizes_append (t ∷ a) b = let h = sizes_append a b in omega arith

pub numbered_length : (n : ℕ) (t : Tree) → length (numbered n t) ≡ size t
unfolding numbered size
numbered_length n (leaf kind arg first second) = refl
numbered_length n (one_child kind arg first) = simp length-append (let h = numbered_length n first in omega arith)
numbered_length n (two_children kind arg first second) =
    simp length-append (let h = numbered_length n first in let k = numbered_length (n + size first) second in omega arith)
numbered_length n (three_children kind first second third) =
    simp length-append
    (let h = numbered_length n first in
    let k = numbered_length (n + size first) second in
    let m = numbered_length (n + size first + size second) third in
    omega arith)
numbered_length n (setting i value) = simp length-append (let h = numbered_length n value in omega arith)

pub all_length : (n : ℕ) (ts : List Tree) → length (numbered_all n ts) ≡ sizes ts
unfolding numbered_all sizes
all_length n [] = refl
all_length n (t ∷ ts) =
    let h = all_length (n + size t) ts in
    let k = numbered_length n t in
    omega (arith, length-append (numbered n t) (numbered_all (n + size t) ts))

pub nodes_length : (rs : List NodeRecord) → length (flat_map node_bytes rs) ≡ 8 * length rs
unfolding flat_map
nodes_length [] = refl
nodes_length (r ∷ rs) = let h = nodes_length rs in omega (arith, length-append (node_bytes r) (flat_map node_bytes rs))
