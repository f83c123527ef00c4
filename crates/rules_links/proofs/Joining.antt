-- What classes stand for: at the start, in a test, and after two of them are joined.
use Rattle.std.specs.Prelude.{◌≡◌, ◌&&◌, ◌||◌, ◌+◌, ◌≤◌, ◌<◌}
use mathlib.Core.Bool.{and-false}
use Rattle.kit.specs.Names.{refl, ap, sym, ◌∙◌, fun_ext, Bool, true, false, cond, and-true, or-false, true≢false, false≢true}
use Rattle.kit.specs.Names.{List, ℕ, arith, eqb, ltb, length, get_or, get_or_eq_default, ltb-true, ltb-false, eqb-true, eqb-false}
use Rattle.kit.specs.Names.{eq-eqb, ne_eqb}
use Rattle.definitions.specs.ContractFile.{Name, me_name, final_name, parameter_name, same_name}
use Rattle.definitions.specs.Owners.{no_links, with_link, with_link_of}
use Rattle.rules_owners.specs.Numbering.{name_numbered, name_with, number_of_name}
use Rattle.rules_owners.proofs.Numbering.{name_back, below_eqb, above_eqb}
use Rattle.rules_links.specs.Classes.{Classed, known, linked_by, exchanged, Learnt}
use Rattle.rules_links.proofs.Names.{known_number, known_below}
use Rattle.rules_links.proofs.Growing.{link_learnt}
use Rattle.rules_links.proofs.Places.{UpTo}

same_name_law : (a b : Name) → same_name a b ≡ true → a ≡ b
unfolding same_name
same_name_law me_name me_name h = refl
same_name_law me_name (final_name g) h = absurd (false≢true h)
same_name_law me_name (parameter_name j) h = absurd (false≢true h)
same_name_law (final_name f) me_name h = absurd (false≢true h)
same_name_law (final_name f) (final_name g) h = ap final_name (eqb-true f g h)
same_name_law (final_name f) (parameter_name j) h = absurd (false≢true h)
same_name_law (parameter_name k) me_name h = absurd (false≢true h)
same_name_law (parameter_name k) (final_name g) h = absurd (false≢true h)
same_name_law (parameter_name k) (parameter_name j) h = ap parameter_name (eqb-true k j h)

-- A name with a class differs from one without.
differ : (count : ℕ) (a b : Name) {s t : Bool} → known count a ≡ s → known count b ≡ t → (s ≡ t → ⊥) → same_name a b ≡ false
differ count a b p q apart = go (same_name a b) refl
  where
    go : (t : Bool) → same_name a b ≡ t → t ≡ false
    go true h = absurd (apart (sym p ∙ ap (known count) (same_name_law a b h) ∙ q))
    go false h = refl

eqb_shift : (m a b : ℕ) → eqb (m + a) (m + b) ≡ eqb a b
eqb_shift m a b = go (eqb a b) refl
  where
    go : (t : Bool) → eqb a b ≡ t → eqb (m + a) (m + b) ≡ t
    go true h = eq-eqb _ _ (ap (λ x. m + x) (eqb-true a b h))
    go false h = let z = eqb-false a b h in ne_eqb _ _ (λ (e : m + a ≡ m + b). omega arith)

same_numbers_law : (count : ℕ) (a b : Name) → known count a ≡ true → known count b ≡ true → eqb (number_of_name a) (number_of_name b) ≡ same_name a b
unfolding same_name
same_numbers_law count me_name me_name p q = refl
same_numbers_law count me_name (final_name g) p q = below_eqb 1 (10 + g) (omega arith)
same_numbers_law count me_name (parameter_name j) p q = below_eqb 1 (2 + j) (omega arith)
same_numbers_law count (final_name f) me_name p q = above_eqb (10 + f) 1 (omega arith)
same_numbers_law count (final_name f) (final_name g) p q = eqb_shift 10 f g
same_numbers_law count (final_name f) (parameter_name j) p q = above_eqb (10 + f) (2 + j) (omega (arith, ltb-true j 8 q))
same_numbers_law count (parameter_name k) me_name p q = above_eqb (2 + k) 1 (omega arith)
same_numbers_law count (parameter_name k) (final_name g) p q = below_eqb (2 + k) (10 + g) (omega (arith, ltb-true k 8 p))
same_numbers_law count (parameter_name k) (parameter_name j) p q = eqb_shift 2 k j

-- Each name in a class of its own.
pub alone : (classes : List ℕ) → 10 ≤ length classes → ((i : ℕ) → i < length classes → get_or classes i 0 ≡ i) → linked_by classes ≡ no_links
unfolding linked_by
alone classes enough own = fun_ext (λ a. fun_ext (λ b. go a b (known (length classes) a) refl (known (length classes) b) refl))
  where
    go : (a b : Name) (s : Bool) → known (length classes) a ≡ s → (t : Bool) → known (length classes) b ≡ t → linked_by classes a b ≡ same_name a b
    go a b true p true q =
        rw (p, q, own _ (known_below _ enough a p), own _ (known_below _ enough b q)) (same_numbers_law (length classes) a b p q)
    go a b true p false q = rw (p, q)
    go a b false p t q = rw p

pub linked_numbers : (classes : List ℕ) (a b : ℕ) → 10 ≤ length classes → a < length classes → b < length classes → (a ≡ 0 → ⊥) → (b ≡ 0 → ⊥)
    → linked_by classes (name_numbered a) (name_numbered b) ≡ eqb (get_or classes a 0) (get_or classes b 0)
unfolding linked_by
linked_numbers classes a b enough p q m n = rw (known_number _ a p m, known_number _ b q n, name_back a m, name_back b n)

-- Classes whose numbers are those of names, as far as there are any.
pub classed : (classes : List ℕ) → 10 ≤ length classes → length classes ≤ 74
    → ((j : ℕ) → j < length classes → get_or classes j 0 < length classes) → Classed classes
classed classes enough few inside = record { enough = enough; few = few; bounded = λ j. go j (ltb j (length classes)) refl }
  where
    go : (j : ℕ) (t : Bool) → ltb j (length classes) ≡ t → get_or classes j 0 < length classes
    go j true h = inside j (ltb-true j (length classes) h)
    go j false h = rw (get_or_eq_default classes 0 (ltb-false j (length classes) h)) (omega arith)

-- Two numbers after p is exchanged for q: equal if they were, or if one was p and the other q.
exchanged_equal : (p q a b : ℕ) → eqb (exchanged p q a) (exchanged p q b) ≡ (eqb a b || (eqb a p && eqb q b) || (eqb a q && eqb p b))
exchanged_equal p q a b = go (eqb a p) refl (eqb b p) refl
  where
    go : (s : Bool) → eqb a p ≡ s → (t : Bool) → eqb b p ≡ t
        → eqb (cond s q a) (cond t q b) ≡ (eqb a b || (s && eqb q b) || (eqb a q && eqb p b))
    go true x true y = rw (eqb-true a p x, eqb-true b p y, eq-eqb q q refl, eq-eqb p p refl)
    go true x false y =
        let n : eqb p b ≡ false = ne_eqb p b (λ z. eqb-false b p y (sym z)) in
        rw (eqb-true a p x, n) (simp (and-false, or-false))
    go false x true y = rw (eqb-true b p y, x, eq-eqb p p refl) (simp and-true)
    go false x false y =
        let n : eqb p b ≡ false = ne_eqb p b (λ z. eqb-false b p y (sym z)) in
        rw n (simp (and-false, or-false))

-- The classes after all of one number have become another.
module _ (before after : List ℕ) (a b n : ℕ) (whole : Classed before) (p : a < length before) (q : b < length before) (some : a ≡ 0 → ⊥) (other : b ≡ 0 → ⊥)
    (exchange : UpTo (λ j. exchanged (get_or before a 0) (get_or before b 0) (get_or before j 0)) n before after) (all : length before ≤ n) where
  joined_classed : Classed after
  joined_classed = classed after (rw exchange.size whole.enough) (rw exchange.size whole.few) inside
    where
      chosen : (class : ℕ) (t : Bool) → class < length before → cond t (get_or before b 0) class < length before
      chosen class true h = whole.bounded b
      chosen class false h = h

      inside : (j : ℕ) → j < length after → get_or after j 0 < length after
      inside j h =
          let long = exchange.size in
          rw (exchange.size, exchange.passed j (omega arith)) (chosen _ (eqb (get_or before j 0) (get_or before a 0)) (whole.bounded j))

  -- Links are chained: joining two classes links whatever is linked to the one with whatever is linked to the other.
  joined_links : linked_by after ≡ with_link (name_numbered a) (name_numbered b) (linked_by before)
  unfolding linked_by with_link
  joined_links = fun_ext (λ x. fun_ext (λ y. go x y (known (length before) x) refl (known (length before) y) refl))
    where
      ka : known (length before) (name_numbered a) ≡ true
      ka = known_number (length before) a p some

      kb : known (length before) (name_numbered b) ≡ true
      kb = known_number (length before) b q other

      each : (x : Name) → known (length before) x ≡ true
          → get_or after (number_of_name x) 0 ≡ exchanged (get_or before a 0) (get_or before b 0) (get_or before (number_of_name x) 0)
      each x k = let below = known_below (length before) whole.enough x k in exchange.passed (number_of_name x) (omega arith)

      go : (x y : Name) (s : Bool) → known (length before) x ≡ s → (t : Bool) → known (length before) y ≡ t
          → linked_by after x y ≡ with_link (name_numbered a) (name_numbered b) (linked_by before) x y
      go x y true h true k =
          rw (exchange.size, h, k, ka, kb, each x h, each y k, name_back a some, name_back b other)
          (exchanged_equal (get_or before a 0) (get_or before b 0) (get_or before (number_of_name x) 0) (get_or before (number_of_name y) 0))
      go x y true h false k =
          rw (exchange.size, h, k, ka, kb, differ _ (name_numbered b) y kb k true≢false, differ _ (name_numbered a) y ka k true≢false) (simp (and-false, or-false))
      go x y false h t k =
          rw (exchange.size, h, differ _ x (name_numbered a) h ka false≢true, differ _ x (name_numbered b) h kb false≢true) (simp or-false)

  -- The names of two numbers are linked when their classes are joined.
  pub joined : Learnt before after true (with_link_of (name_with a) (name_with b) (linked_by before))
  joined = link_learnt before after _ joined_classed exchange.size (rw (ne_eqb a 0 some, ne_eqb b 0 other) joined_links)
