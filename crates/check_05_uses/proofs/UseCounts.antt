-- Counts of uses: one more, none, and one after the other.
use Rattle.std.specs.Prelude.{◌≡◌, ◌∷◌, ◌++◌, ◌+◌, ◌<◌, ◌≤◌}
use Rattle.kit.specs.Names.{refl, ◌∙◌, Bool, true, false, cond, List, [], ℕ, arith, eqb, length, get_or, set}
use Rattle.kit.specs.Names.{length-set, get_or-set_same, get_or-set_other, eqb-true, eqb-false}
use Rattle.definitions.specs.Basics.{count_if}
use Rattle.theory_laws.proofs.Lists.{count_append, count_length}
use Rattle.check_05_uses.specs.Counting.{Room, Counted}

pub counted_none : (counts : List ℕ) → Counted counts counts []
unfolding count_if
counted_none counts = record { each = λ n h. omega arith; long = refl }

pub counted_more : (a b c : List ℕ) (xs ys : List ℕ) → Counted a b xs → Counted b c ys → Counted a c (xs ++ ys)
counted_more a b c xs ys p q =
    record {
      each = λ n h. (let e = p.each n h in let f = q.each n h in let g = count_append (eqb n) xs ys in omega arith);
      long = q.long
          ∙ p.long;
    }

pub room_after : (a b xs : List ℕ) (more left : ℕ) → Counted a b xs → Room a more → length xs + left ≤ more → Room b left
room_after a b xs more left p r h =
    record {
      each = λ n k. (let e = p.each n k in let f = r.each n k in let g = count_length (eqb n) xs in omega arith);
      long = p.long
          ∙ r.long;
    }

pub room_less : (a : List ℕ) (more less : ℕ) → Room a more → less ≤ more → Room a less
room_less a more less r h = record { each = λ n k. (let f = r.each n k in omega arith); long = r.long }

-- One more use of a node.
use_same : (counts : List ℕ) (n k : ℕ) (b : Bool) → n < length counts → eqb k n ≡ b → get_or (set counts n (get_or counts n 0 + 1)) k 0
    ≡ get_or counts k 0 + (cond b 1 0 + 0)
use_same counts n k true h e =
    let same = eqb-true k n e in
    rw (same, get_or-set_same counts n (get_or counts n 0 + 1) 0 h) (omega arith)
use_same counts n k false h e = rw (get_or-set_other counts n k (get_or counts n 0 + 1) 0 (eqb-false k n e)) (omega arith)

pub counted_use : (counts : List ℕ) (n : ℕ) → n < length counts → Counted counts (set counts n (get_or counts n 0 + 1)) (n ∷ [])
unfolding count_if
counted_use counts n h = record { each = λ k l. use_same counts n k (eqb k n) h refl; long = length-set counts n (get_or counts n 0 + 1) }

use_past : (counts : List ℕ) (n k : ℕ) (b : Bool) → 512 ≤ n → k < 512 → eqb k n ≡ b → get_or counts k 0 ≡ get_or counts k 0 + (cond b 1 0 + 0)
use_past counts n k true h l e =
    let same = eqb-true k n e in
    absurd (omega arith)
use_past counts n k false h l e = omega arith

pub counted_past : (counts : List ℕ) (n : ℕ) → 512 ≤ n → Counted counts counts (n ∷ [])
unfolding count_if
counted_past counts n h = record { each = λ k l. use_past counts n k (eqb k n) h l refl; long = refl }
