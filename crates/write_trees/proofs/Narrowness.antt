-- The nodes of a numbered tree fit the bytes that they are written to, where the tree's own numbers and its nodes' numbers do.
use Rattle.std.specs.Prelude.{◌∷◌, ◌++◌, ◌+◌, ◌-◌, ◌<◌, ◌≤◌}
use Rattle.kit.specs.Names.{List, [], ℕ, arith}
use Rattle.definitions.specs.ContractFile.{NodeRecord, node}
use Rattle.definitions.specs.Rewriting.{Tree, leaf, one_child, two_children, three_children, setting, size, numbered, sizes, numbered_all}
use Rattle.write_trees.proofs.Tables.{AllNarrow, none, more}

pub data NarrowTree : Tree → Type 0 where
  narrow_leaf : (kind arg first second : ℕ) → kind < 256 → arg < 256 → first < 65536 → second < 65536 → NarrowTree (leaf kind arg first second)
  narrow_one : (kind arg : ℕ) (first : Tree) → kind < 256 → arg < 256 → NarrowTree first → NarrowTree (one_child kind arg first)
  narrow_two : (kind arg : ℕ) (first second : Tree) → kind < 256 → arg < 256 → NarrowTree first → NarrowTree second → NarrowTree (two_children kind arg first second)
  narrow_three : (kind : ℕ) (first second third : Tree) → kind < 256 → NarrowTree first → NarrowTree second → NarrowTree third → NarrowTree (three_children kind first second third)
  narrow_setting : (variable : ℕ) (value : Tree) → variable < 65536 → NarrowTree value → NarrowTree (setting variable value)

pub narrow_append : (xs ys : List NodeRecord) → AllNarrow xs → AllNarrow ys → AllNarrow (xs ++ ys)
narrow_append [] ys h k = k
narrow_append (r ∷ rs) ys (more _ _ n h) k = more r (rs ++ ys) n (narrow_append rs ys h k)

pub numbered_narrow : (t : Tree) → NarrowTree t → (n : ℕ) → n + size t ≤ 65536 → AllNarrow (numbered n t)
unfolding numbered size
numbered_narrow (leaf kind arg first second) (narrow_leaf _ _ _ _ a b c d) n h =
    more (node kind arg first second 0) [] (record { kind = a; arg = b; first = c; second = d; third = omega arith }) none
numbered_narrow (one_child kind arg first) (narrow_one _ _ _ a b c) n h =
    narrow_append (numbered n first) (node kind arg (n + size first - 1) 0 0 ∷ []) (numbered_narrow first c n (omega arith))
    (more (node kind arg (n + size first - 1) 0 0) [] (record { kind = a; arg = b; first = omega arith; second = omega arith; third = omega arith }) none)
numbered_narrow (two_children kind arg first second) (narrow_two _ _ _ _ a b c d) n h =
    let r = node kind arg (n + size first - 1) (n + size first + size second - 1) 0 in
    narrow_append (numbered n first ++ numbered (n + size first) second) (r ∷ [])
    (narrow_append (numbered n first) (numbered (n + size first) second) (numbered_narrow first c n (omega arith)) (numbered_narrow second d (n + size first) (omega arith)))
    (more r [] (record { kind = a; arg = b; first = omega arith; second = omega arith; third = omega arith }) none)
numbered_narrow (three_children kind first second third) (narrow_three _ _ _ _ a b c d) n h =
    let m = n + size first in
    let k = n + size first + size second in
    let r = node kind 0 (n + size first - 1) (n + size first + size second - 1) (n + size first + size second + size third - 1) in
    narrow_append ((numbered n first ++ numbered m second) ++ numbered k third) (r ∷ [])
    (narrow_append (numbered n first ++ numbered m second) (numbered k third)
    (narrow_append (numbered n first) (numbered m second) (numbered_narrow first b n (omega arith)) (numbered_narrow second c m (omega arith)))
    (numbered_narrow third d k (omega arith)))
    (more r [] (record { kind = a; arg = omega arith; first = omega arith; second = omega arith; third = omega arith }) none)
numbered_narrow (setting variable value) (narrow_setting _ _ a b) n h =
    let r = node 22 0 variable (n + size value - 1) 0 in
    narrow_append (numbered n value) (r ∷ []) (numbered_narrow value b n (omega arith))
    (more r [] (record { kind = omega arith; arg = omega arith; first = a; second = omega arith; third = omega arith }) none)

pub data AllNarrowTrees : List Tree → Type 0 where
  no_tree : AllNarrowTrees []
  more_trees : (t : Tree) (ts : List Tree) → NarrowTree t → AllNarrowTrees ts → AllNarrowTrees (t ∷ ts)

pub all_numbered_narrow : (ts : List Tree) → AllNarrowTrees ts → (n : ℕ) → n + sizes ts ≤ 65536 → AllNarrow (numbered_all n ts)
unfolding numbered_all sizes
all_numbered_narrow [] h n k = none
all_numbered_narrow (t ∷ ts) (more_trees _ _ a h) n k =
    narrow_append (numbered n t) (numbered_all (n + size t) ts) (numbered_narrow t a n (omega arith)) (all_numbered_narrow ts h (n + size t) (omega arith))
