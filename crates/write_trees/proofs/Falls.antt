-- In the nodes that `numbered` gives each child's number is below its parent's.
use Rattle.std.specs.Prelude.{◌≡◌, ◌∷◌, ◌++◌, ◌+◌, ◌-◌}
use Rattle.kit.specs.Names.{refl, List, [], ℕ, zero, suc, arith, add-zero, zero-add, length, length-append}
use Rattle.definitions.specs.ContractFile.{NodeRecord, node}
use Rattle.definitions.specs.Rewriting.{Tree, leaf, one_child, two_children, three_children, setting, size, numbered, numbered_all}
use Rattle.write_trees.specs.Trees.{Form, leaf_form, one_form, two_form, three_form, setting_form, form_of, record_at, FallsBy, Falls, Falling, FallingFrom}
use Rattle.write_trees.proofs.Numbering.{Shaped, leaf_shaped, one_shaped, two_shaped, three_shaped, setting_shaped, size_positive, numbered_length}

pub falling_append : (n : ℕ) (first second : List NodeRecord) → FallingFrom n first → FallingFrom (n + length first) second → FallingFrom n (first ++ second)
unfolding FallingFrom
falling_append n [] second h k = rw add-zero at k
falling_append n (r ∷ rs) second h k =
    let e : n + suc (length rs) ≡ suc n + length rs = omega arith in
    (h.0, falling_append (suc n) rs second h.1 (rw e at k))

falling_at : (n : ℕ) (nodes : List NodeRecord) → FallingFrom n nodes → (i : ℕ) → Falls (n + i) (record_at nodes i)
unfolding FallingFrom form_of
falling_at n [] h i = tt
falling_at n (r ∷ rs) h zero = rw add-zero h.0
falling_at n (r ∷ rs) h (suc i) =
    let e : n + suc i ≡ suc n + i = omega arith in
    rw e (falling_at (suc n) rs h.1 i)

pub falling_whole : (nodes : List NodeRecord) → FallingFrom 0 nodes → Falling nodes
falling_whole nodes h = record { below = λ n. rw zero-add at (falling_at 0 nodes h n) }

-- A last node, whose form is known.
last_falls : (n : ℕ) (form : Form) (r : NodeRecord) → form_of r.kind ≡ form → FallsBy n form r → FallingFrom n (r ∷ [])
unfolding FallingFrom
last_falls n form r e h = (rw e h, tt)

-- Nodes behind others whose count is known.
next_falls : (n k m : ℕ) (first second : List NodeRecord) → length first ≡ k → n + k ≡ m → FallingFrom n first → FallingFrom m second
    → FallingFrom n (first ++ second)
next_falls n k m first second l e h g = let same : n + length first ≡ m = omega arith in falling_append n first second h (rw same g)

pub numbered_falls : (t : Tree) → Shaped t → (n : ℕ) → FallingFrom n (numbered n t)
unfolding numbered form_of
numbered_falls (leaf kind arg first second) (leaf_shaped _ _ _ _ f) n = last_falls n leaf_form (node kind arg first second 0) f tt
numbered_falls (one_child kind arg first) (one_shaped _ _ _ f s) n =
    let p = size_positive first in
    let m = n + size first in
    let r = node kind arg (n + size first - 1) 0 0 in
    next_falls n (size first) m (numbered n first) (r ∷ []) (numbered_length first n) refl (numbered_falls first s n) (last_falls m one_form r f (omega arith))
numbered_falls (two_children kind arg first second) (two_shaped _ _ _ _ f s u) n =
    let p = size_positive first in
    let q = size_positive second in
    let m = n + size first in
    let k = n + size first + size second in
    let a = numbered n first in
    let b = numbered m second in
    let r = node kind arg (n + size first - 1) (n + size first + size second - 1) 0 in
    let both : length (a ++ b) ≡ size first + size second = rw (length-append, numbered_length first n, numbered_length second m) refl in
    next_falls n (size first + size second) k (a ++ b) (r ∷ []) both (omega arith)
    (next_falls n (size first) m a b (numbered_length first n) refl (numbered_falls first s n) (numbered_falls second u m))
    (last_falls k two_form r f (omega arith, omega arith))
numbered_falls (three_children kind first second third) (three_shaped _ _ _ _ f s u v) n =
    let p = size_positive first in
    let q = size_positive second in
    let o = size_positive third in
    let m = n + size first in
    let k = n + size first + size second in
    let j = n + size first + size second + size third in
    let a = numbered n first in
    let b = numbered m second in
    let d = numbered k third in
    let r = node kind 0 (n + size first - 1) (n + size first + size second - 1) (n + size first + size second + size third - 1) in
    let both : length (a ++ b) ≡ size first + size second = rw (length-append, numbered_length first n, numbered_length second m) refl in
    let whole : length ((a ++ b) ++ d) ≡ size first + size second + size third = rw (length-append, both, numbered_length third k) refl in
    next_falls n (size first + size second + size third) j ((a ++ b) ++ d) (r ∷ []) whole (omega arith)
    (next_falls n (size first + size second) k (a ++ b) d both (omega arith)
    (next_falls n (size first) m a b (numbered_length first n) refl (numbered_falls first s n) (numbered_falls second u m)) (numbered_falls third v k))
    (last_falls j three_form r f (omega arith, (omega arith, omega arith)))
numbered_falls (setting variable value) (setting_shaped _ _ s) n =
    let p = size_positive value in
    let m = n + size value in
    let r = node 22 0 variable (n + size value - 1) 0 in
    next_falls n (size value) m (numbered n value) (r ∷ []) (numbered_length value n) refl (numbered_falls value s n) (last_falls m setting_form r refl (omega arith))

pub data AllShaped : List Tree → Type 0 where
  none : AllShaped []
  more : (t : Tree) (ts : List Tree) → Shaped t → AllShaped ts → AllShaped (t ∷ ts)

pub shaped_append : (ts us : List Tree) → AllShaped ts → AllShaped us → AllShaped (ts ++ us)
shaped_append [] us h k = k
shaped_append (t ∷ ts) us (more _ _ s h) k = more t (ts ++ us) s (shaped_append ts us h k)

pub all_numbered_falls : (ts : List Tree) → AllShaped ts → (n : ℕ) → FallingFrom n (numbered_all n ts)
unfolding numbered_all FallingFrom
all_numbered_falls [] h n = tt
all_numbered_falls (t ∷ ts) (more _ _ s h) n =
    next_falls n (size t) (n + size t) (numbered n t) _ (numbered_length t n) refl (numbered_falls t s n) (all_numbered_falls ts h (n + size t))
