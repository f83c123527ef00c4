-- The nodes that `numbered` gives, standing anywhere in a table, read back as their tree, and their children's numbers fall.
use Rattle.std.specs.Prelude.{◌≡◌, ◌∷◌, ◌++◌, ◌+◌, ◌-◌, ◌≤◌, ◌<◌}
use Rattle.kit.specs.Names.{refl, ap, ap₂, ◌∙◌, List, [], append_assoc, ℕ, zero, suc, arith, length}
use Rattle.kit.specs.Names.{length-append, get_or_at}
use Rattle.definitions.specs.ContractFile.{NodeRecord, node}
use Rattle.definitions.specs.Rewriting.{Tree, leaf, one_child, two_children, three_children, setting, size, numbered}
use Rattle.write_trees.specs.Trees.{Form, leaf_form, one_form, two_form, three_form, setting_form, form_of, record_at, tree_of, tree_at}

-- Each node's kind has just the children that the tree gives it.
pub data Shaped : Tree → Type 0 where
  leaf_shaped : (kind arg first second : ℕ) → form_of kind ≡ leaf_form → Shaped (leaf kind arg first second)
  one_shaped : (kind arg : ℕ) (first : Tree) → form_of kind ≡ one_form → Shaped first → Shaped (one_child kind arg first)
  two_shaped : (kind arg : ℕ) (first second : Tree) → form_of kind ≡ two_form → Shaped first → Shaped second → Shaped (two_children kind arg first second)
  three_shaped : (kind : ℕ) (first second third : Tree) → form_of kind ≡ three_form → Shaped first → Shaped second → Shaped third → Shaped (three_children kind first second third)
  setting_shaped : (variable : ℕ) (value : Tree) → Shaped value → Shaped (setting variable value)

pub size_positive : (t : Tree) → 0 < size t
unfolding size
size_positive (leaf kind arg first second) = omega arith
size_positive (one_child kind arg first) = omega arith
size_positive (two_children kind arg first second) = omega arith
size_positive (three_children kind first second third) = omega arith
size_positive (setting variable value) = omega arith

pub numbered_length : (t : Tree) (n : ℕ) → length (numbered n t) ≡ size t
unfolding numbered size
numbered_length (leaf kind arg first second) n = refl
numbered_length (one_child kind arg first) n = rw (length-append, numbered_length first n) (omega arith)
numbered_length (two_children kind arg first second) n =
    simp length-append (rw (numbered_length first n, numbered_length second (n + size first)) (omega arith))
numbered_length (three_children kind first second third) n =
    simp length-append (rw (numbered_length first n, numbered_length second (n + size first), numbered_length third (n + size first + size second)) (omega arith))
numbered_length (setting variable value) n = rw (length-append, numbered_length value n) (omega arith)

-- One level of reading, where the node and its form are known.
module _ (nodes : List NodeRecord) (levels n : ℕ) (r : NodeRecord) (here : record_at nodes n ≡ r) where
  pub tree_reads : (form : Form) → form_of r.kind ≡ form → tree_at (suc levels) nodes n ≡ tree_of form r (tree_at levels nodes)
  unfolding tree_at
  tree_reads form e = rw (here, e)

module _ (before first : List NodeRecord) where
  end_one : (r : NodeRecord) (after : List NodeRecord) → before ++ ((first ++ (r ∷ [])) ++ after) ≡ (before ++ first) ++ (r ∷ after)
  end_one r after = simp append_assoc

  first_one : (rest after : List NodeRecord) → before ++ ((first ++ rest) ++ after) ≡ before ++ (first ++ (rest ++ after))
  first_one rest after = simp append_assoc

  module _ (second : List NodeRecord) where
    end_two : (r : NodeRecord) (after : List NodeRecord)
        → before ++ ((first ++ second ++ (r ∷ [])) ++ after) ≡ ((before ++ first) ++ second) ++ (r ∷ after)
    end_two r after = simp append_assoc

    first_two : (rest after : List NodeRecord) → before ++ ((first ++ second ++ rest) ++ after) ≡ before ++ (first ++ (second ++ (rest ++ after)))
    first_two rest after = simp append_assoc

    second_two : (rest after : List NodeRecord) → before ++ ((first ++ second ++ rest) ++ after) ≡ (before ++ first) ++ (second ++ (rest ++ after))
    second_two rest after = simp append_assoc

    module _ (third : List NodeRecord) where
      end_three : (r : NodeRecord) (after : List NodeRecord)
          → before ++ ((first ++ second ++ third ++ (r ∷ [])) ++ after) ≡ (((before ++ first) ++ second) ++ third) ++ (r ∷ after)
      end_three r after = simp append_assoc

      first_three : (rest after : List NodeRecord)
          → before ++ ((first ++ second ++ third ++ rest) ++ after) ≡ before ++ (first ++ (second ++ (third ++ (rest ++ after))))
      first_three rest after = simp append_assoc

      second_three : (rest after : List NodeRecord)
          → before ++ ((first ++ second ++ third ++ rest) ++ after) ≡ (before ++ first) ++ (second ++ (third ++ (rest ++ after)))
      second_three rest after = simp append_assoc

      third_three : (rest after : List NodeRecord)
          → before ++ ((first ++ second ++ third ++ rest) ++ after) ≡ ((before ++ first) ++ second) ++ (third ++ (rest ++ after))
      third_three rest after = simp append_assoc

-- The node right behind some others.
behind : (before after nodes : List NodeRecord) (r : NodeRecord) (n : ℕ) → nodes ≡ before ++ (r ∷ after) → length before ≡ n → record_at nodes n ≡ r
behind before after nodes r n e l = rw e (get_or_at before r after (node 0 0 0 0 0) n l)

pub reads_back : (t : Tree) → Shaped t → (levels n : ℕ) (before after nodes : List NodeRecord) → nodes ≡ before ++ (numbered n t ++ after) → length before ≡ n
    → size t ≤ levels → tree_at levels nodes (n + size t - 1) ≡ t
unfolding numbered size tree_of form_of
reads_back t s zero n before after nodes e l h = let p = size_positive t in absurd (omega arith)
reads_back (leaf kind arg first second) (leaf_shaped _ _ _ _ f) (suc levels) n before after nodes e l h =
    let here : n + 1 - 1 ≡ n = omega arith in
    rw here (tree_reads nodes levels n (node kind arg first second 0) (behind before after nodes _ n e l) leaf_form f)
reads_back (one_child kind arg first) (one_shaped _ _ _ f s) (suc levels) n before after nodes e l h =
    let a = numbered n first in
    let r = node kind arg (n + size first - 1) 0 0 in
    let here : n + (size first + 1) - 1 ≡ n + size first = omega arith in
    let at : length (before ++ a) ≡ n + size first = rw (length-append, numbered_length first n, l) refl in
    rw here
    (tree_reads nodes levels (n + size first) r (behind (before ++ a) after nodes r _ (e ∙ end_one before a r after) at) one_form f
    ∙ ap (one_child kind arg) (reads_back first s levels n before ((r ∷ []) ++ after) nodes (e ∙ first_one before a (r ∷ []) after) l (omega arith)))
reads_back (two_children kind arg first second) (two_shaped _ _ _ _ f s u) (suc levels) n before after nodes e l h =
    let m = n + size first in
    let a = numbered n first in
    let b = numbered m second in
    let r = node kind arg (n + size first - 1) (n + size first + size second - 1) 0 in
    let here : n + (size first + size second + 1) - 1 ≡ m + size second = omega arith in
    let at_m : length (before ++ a) ≡ m = rw (length-append, numbered_length first n, l) refl in
    let at : length ((before ++ a) ++ b) ≡ m + size second = rw (length-append, at_m, numbered_length second m) refl in
    rw here
    (tree_reads nodes levels (m + size second) r (behind ((before ++ a) ++ b) after nodes r _ (e ∙ end_two before a b r after) at) two_form f
    ∙ ap₂ (two_children kind arg)
    (reads_back first s levels n before (b ++ ((r ∷ []) ++ after)) nodes (e ∙ first_two before a b (r ∷ []) after) l (omega arith))
    (reads_back second u levels m (before ++ a) ((r ∷ []) ++ after) nodes (e ∙ second_two before a b (r ∷ []) after) at_m (omega arith)))
reads_back (three_children kind first second third) (three_shaped _ _ _ _ f s u v) (suc levels) n before after nodes e l h =
    let m = n + size first in
    let k = n + size first + size second in
    let a = numbered n first in
    let b = numbered m second in
    let d = numbered k third in
    let r = node kind 0 (n + size first - 1) (n + size first + size second - 1) (n + size first + size second + size third - 1) in
    let here : n + (size first + size second + size third + 1) - 1 ≡ k + size third = omega arith in
    let at_m : length (before ++ a) ≡ m = rw (length-append, numbered_length first n, l) refl in
    let at_k : length ((before ++ a) ++ b) ≡ k = rw (length-append, at_m, numbered_length second m) refl in
    let at : length (((before ++ a) ++ b) ++ d) ≡ k + size third = rw (length-append, at_k, numbered_length third k) refl in
    let x = reads_back first s levels n before (b ++ (d ++ ((r ∷ []) ++ after))) nodes (e ∙ first_three before a b d (r ∷ []) after) l (omega arith) in
    let y = reads_back second u levels m (before ++ a) (d ++ ((r ∷ []) ++ after)) nodes (e ∙ second_three before a b d (r ∷ []) after) at_m (omega arith) in
    let z = reads_back third v levels k ((before ++ a) ++ b) ((r ∷ []) ++ after) nodes (e ∙ third_three before a b d (r ∷ []) after) at_k (omega arith) in
    rw here
    (tree_reads nodes levels (k + size third) r (behind (((before ++ a) ++ b) ++ d) after nodes r _ (e ∙ end_three before a b d r after) at) three_form f
    ∙ (λ i. three_children kind (x i) (y i) (z i)))
reads_back (setting variable value) (setting_shaped _ _ s) (suc levels) n before after nodes e l h =
    let a = numbered n value in
    let r = node 22 0 variable (n + size value - 1) 0 in
    let here : n + (size value + 1) - 1 ≡ n + size value = omega arith in
    let at : length (before ++ a) ≡ n + size value = rw (length-append, numbered_length value n, l) refl in
    rw here
    (tree_reads nodes levels (n + size value) r (behind (before ++ a) after nodes r _ (e ∙ end_one before a r after) at) setting_form refl
    ∙ ap (setting variable) (reads_back value s levels n before ((r ∷ []) ++ after) nodes (e ∙ first_one before a (r ∷ []) after) l (omega arith)))
