-- Names of one pair of classes, one of each branch, get one number: the last of them.
use Rattle.std.specs.Prelude.{◌≡◌, ◌&&◌, ◌+◌, ◌*◌, ◌≤◌, ◌<◌}
use mathlib.Core.Bool.{and_self}
use Rattle.kit.specs.Names.{refl, sym, ap, ◌∙◌, fun_ext, Bool, true, false, List, ℕ, arith, eqb}
use Rattle.kit.specs.Names.{length, get_or, set, replicate, length-set, length-replicate, get_or-set_same, get_or-set_other, eqb-true, eqb-false, eq-eqb, ne_eqb}
use Rattle.definitions.specs.ContractFile.{Name}
use Rattle.definitions.specs.Owners.{linked_in_both}
use Rattle.rules_links.specs.Classes.{Classed, known, linked_by}
use Rattle.rules_links.proofs.Names.{known_below}
use Rattle.rules_links.proofs.Places.{UpTo}
use Rattle.rules_links.proofs.Joining.{classed}
use Rattle.rules_meet.specs.Branches.{Met}

-- The place of a name's pair of classes.
abbrev pub pair_of : List ℕ → List ℕ → ℕ → ℕ
pair_of one other j = get_or one j 0 * 74 + get_or other j 0

-- For each pair of classes of a name below i, such a name.
pub record Lasts (one other last : List ℕ) (i : ℕ) : Type 0 where
  pub most : i ≤ length one
  pub size : length last ≡ 5476
  pub below : (j : ℕ) → j < i → get_or last (pair_of one other j) 0 < i
  pub stands : (j : ℕ) → j < i → pair_of one other (get_or last (pair_of one other j) 0) ≡ pair_of one other j

pub lasts_start : {one other : List ℕ} → Lasts one other (replicate 5476 0) 0
lasts_start = record {
  most = omega arith;
  size = length-replicate {A = ℕ} 5476 0;
  below = λ j h. absurd (omega arith);
  stands = λ j h. absurd (omega arith);
}

module _ (one other : List ℕ) (whole : Classed one) (also : Classed other) where
  abbrev pair : ℕ → ℕ
  pair j = pair_of one other j

  pub lasts_next : (last : List ℕ) (i : ℕ) → i < length one → Lasts one other last i → Lasts one other (set last (pair_of one other i) i) (i + 1)
  lasts_next last i h so_far = record {
    most = omega arith;
    size = length-set last _ i ∙ so_far.size;
    below = each (λ j n. n < i + 1) (omega arith) (λ j p. let b = so_far.below j p in omega arith);
    stands = each (λ j n. pair n ≡ pair j) (λ j e. sym e) so_far.stands;
  }
    where
      -- What holds of the new name for each of its pair, and of the names below by what was there, holds of each now.
      each : (P : ℕ → ℕ → Type 0) → ((j : ℕ) → pair j ≡ pair i → P j i) → ((j : ℕ) → j < i → P j (get_or last (pair j) 0))
          → (j : ℕ) → j < i + 1 → P j (get_or (set last (pair i) i) (pair j) 0)
      each P here there j p = go (eqb (pair j) (pair i)) refl
        where
          go : (t : Bool) → eqb (pair j) (pair i) ≡ t → P j (get_or (set last (pair i) i) (pair j) 0)
          go true e =
              let same = eqb-true (pair j) (pair i) e in
              rw (same, get_or-set_same last (pair i) i 0 (omega (arith, so_far.size, whole.bounded i, also.bounded i, whole.few, also.few))) (here j same)
          go false e =
              let n = eqb-false (pair j) (pair i) e in
              let less : j < i = (let m : j ≡ i → ⊥ = λ q. n (ap pair q) in omega arith) in
              rw (get_or-set_other last _ _ i 0 n) (there j less)

  module _ (long : length other ≡ length one) (last after : List ℕ) (m n : ℕ) (lasts : Lasts one other last m)
      (put : UpTo (λ j. get_or last (pair j) 0) n one after) (named : length one ≤ m) (all : length one ≤ n) where
    -- Two names have one number when they are of one class in both branches.
    agree : (i j : ℕ) → i < length one → j < length one
        → eqb (get_or after i 0) (get_or after j 0) ≡ (eqb (get_or one i 0) (get_or one j 0) && eqb (get_or other i 0) (get_or other j 0))
    agree i j p q =
        rw (put.passed i (omega arith), put.passed j (omega arith))
        (go (eqb (get_or one i 0) (get_or one j 0)) refl (eqb (get_or other i 0) (get_or other j 0)) refl)
      where
        apart : (pair i ≡ pair j → ⊥) → eqb (get_or last (pair i) 0) (get_or last (pair j) 0) ≡ false
        apart n = ne_eqb _ _ (λ e. n (sym (lasts.stands i (omega arith)) ∙ ap pair e ∙ lasts.stands j (omega arith)))

        go : (x : Bool) → eqb (get_or one i 0) (get_or one j 0) ≡ x → (y : Bool) → eqb (get_or other i 0) (get_or other j 0) ≡ y
            → eqb (get_or last (pair i) 0) (get_or last (pair j) 0) ≡ (x && y)
        go true a true b =
            rw (eqb-true (get_or one i 0) (get_or one j 0) a, eqb-true (get_or other i 0) (get_or other j 0) b) (eq-eqb (get_or last (pair j) 0) _ refl)
        go true a false b =
            let same = eqb-true (get_or one i 0) (get_or one j 0) a in
            apart (λ (e : pair i ≡ pair j). eqb-false (get_or other i 0) (get_or other j 0) b (omega arith))
        go false a y b =
            apart (λ (e : pair i ≡ pair j). eqb-false (get_or one i 0) (get_or one j 0) a (omega (arith, also.bounded i, also.bounded j, also.few)))

    met_links : linked_by after ≡ linked_in_both (linked_by one) (linked_by other)
    unfolding linked_by
    met_links = fun_ext (λ a. fun_ext (λ b. go a b (known (length one) a) refl (known (length one) b) refl))
      where
        go : (a b : Name) (s : Bool) → known (length one) a ≡ s → (t : Bool) → known (length one) b ≡ t
            → linked_by after a b ≡ linked_in_both (linked_by one) (linked_by other) a b
        go a b true p true q = rw (put.size, long, p, q) (agree _ _ (known_below _ whole.enough a p) (known_below _ whole.enough b q))
        go a b true p false q = rw (put.size, long, p, q, and_self)
        go a b false p t q = rw (put.size, long, p, and_self)

    inside : (j : ℕ) → j < length after → get_or after j 0 < length after
    inside j h =
        let size = put.size in
        let most = lasts.most in
        let below = lasts.below j (omega arith) in
        rw (put.passed j (omega arith)) (omega arith)

    pub met : Met one other after
    met = record {
      links = met_links;
      classed = classed after (rw put.size whole.enough) (rw put.size whole.few) inside;
      long = put.size;
    }
