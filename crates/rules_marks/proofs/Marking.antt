-- Marking one list of nodes after another, and the nodes at a place: those of its parts, and then its own.
use Rattle.std.specs.Prelude.{◌≡◌, ◌∷◌, ◌++◌, ◌<◌}
use mathlib.Core.List.Memᴰ
use Rattle.kit.specs.Names.{refl, ap, ap₂, ◌∙◌, Bool, true, false, cond, List, [], Member, member_head, member_tail}
use Rattle.kit.specs.Names.{member_not_nil, member_append_cases, member_append_left, member_append_right, ⊎_elim, map, ℕ, zero, suc}
use Rattle.kit.specs.Names.{arith, ltb, length, set, length-set, ltb-true}
use Rattle.definitions.specs.Basics.{all, flat_map}
use Rattle.definitions.specs.ContractFile.{Node, node_at, children, expression_parts, is_expression, is_statement}
use Rattle.theory_laws.proofs.TruthValues.{and_left, and_right}
use Rattle.theory_trees.specs.Trees.{Falling}
use Rattle.rules_marks.specs.Marks.{expressions_of_statement, Place, expression, statement, number_of, parts_at, own_at, numbers_at, numbers_under, marked}

pub marked_append : (owner : ℕ → ℕ) (a b column : List ℕ) → marked owner (a ++ b) column ≡ marked owner b (marked owner a column)
unfolding marked
marked_append owner [] b column = refl
marked_append owner (n ∷ ns) b column = marked_append owner ns b (set column n (owner n))

pub marked_length : (owner : ℕ → ℕ) (ns column : List ℕ) → length (marked owner ns column) ≡ length column
unfolding marked
marked_length owner [] column = refl
marked_length owner (n ∷ ns) column = marked_length owner ns (set column n (owner n)) ∙ length-set column n (owner n)

flat_same : {A : Type 0} (f g : A → List ℕ) (xs : List A) → ((x : A) → Member x xs → f x ≡ g x) → flat_map f xs ≡ flat_map g xs
unfolding flat_map
flat_same f g [] same = refl
flat_same f g (x ∷ xs) same = ap₂ (λ (a b : List ℕ). a ++ b) (same x (member_head refl)) (flat_same f g xs (λ y d. same y (member_tail d)))

all_at : (test : ℕ → Bool) (m : ℕ) (xs : List ℕ) → all test xs ≡ true → Member m xs → test m ≡ true
unfolding all
all_at test m [] h d = elim d [ ]
all_at test m (x ∷ xs) h (member_head e) = rw e (and_left (test x) (all test xs) h)
all_at test m (x ∷ xs) h (member_tail d) = all_at test m xs (and_right (test x) (all test xs) h) d

module _ (nodes : List Node) where
  -- A part is one of the node's children.
  some_of : (b : Bool) (make : ℕ → Place) (xs : List ℕ) (q : Place) → Member q (map make (cond b xs [])) → (m : ℕ) × Member m xs × (make m ≡ q)
  some_of true make xs q d = Memᴰ.of_map make xs d
  some_of false make xs q d = absurd (member_not_nil d)

  pub part_child : (p q : Place) → Member q (parts_at nodes p) → Member (number_of q) (children (node_at nodes (number_of p)))
  unfolding parts_at
  part_child (expression n) q d =
      let t = some_of (is_expression (node_at nodes n)) expression _ q d in
      rw (← t.2) (member_append_left _ t.1)
  part_child (statement n) q d =
      ⊎_elim (λ h. let t = some_of (is_statement (node_at nodes n)) expression _ q h in rw (← t.2) (member_append_left _ t.1))
      (λ h. let t = Memᴰ.of_map statement _ h in rw (← t.2) (member_append_right (expression_parts (node_at nodes n)) t.1))
      (member_append_cases (map expression (expressions_of_statement (node_at nodes n))) d)

  module _ (falling : Falling nodes) where
    pub child_below : (n m : ℕ) → Member m (children (node_at nodes n)) → m < n
    child_below n m d = ltb-true m n (all_at (λ child. ltb child n) m (children (node_at nodes n)) (falling.below n) d)

    -- More levels than a node's number change nothing.
    levels : (k m : ℕ) (p : Place) → number_of p < k → number_of p < m → numbers_at k nodes p ≡ numbers_at m nodes p
    unfolding numbers_at
    levels zero m p a b = absurd (omega arith)
    levels (suc k) zero p a b = absurd (omega arith)
    levels (suc k) (suc m) p a b =
        ap (λ (l : List ℕ). l ++ own_at p) (flat_same _ _ (parts_at nodes p) (λ q d.
        let h = child_below (number_of p) (number_of q) (part_child p q d) in
        levels k m q (omega arith) (omega arith)))

    pub numbers_unfold : (p : Place) → numbers_under nodes p ≡ flat_map (numbers_under nodes) (parts_at nodes p) ++ own_at p
    unfolding numbers_at
    numbers_unfold p =
        ap (λ (l : List ℕ). l ++ own_at p) (flat_same _ _ (parts_at nodes p) (λ q d.
        levels (number_of p) (suc (number_of q)) q (child_below (number_of p) (number_of q) (part_child p q d)) (omega arith)))
