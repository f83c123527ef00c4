-- A list whose places are written one after the other.
use Rattle.std.specs.Prelude.{◌≡◌, ◌+◌, ◌≤◌, ◌<◌}
use Rattle.kit.specs.Names.{refl, ◌∙◌, Bool, true, false, List, ℕ, arith, eqb, length, get_or, set, length-set}
use Rattle.kit.specs.Names.{get_or-set_same, get_or-set_other, eqb-true, eqb-false}

-- Up to i each place has its value, from i on the list is as before.
pub record UpTo (value : ℕ → ℕ) (i : ℕ) (before now : List ℕ) : Type 0 where
  pub most : i ≤ length before
  pub size : length now ≡ length before
  pub passed : (j : ℕ) → j < i → get_or now j 0 ≡ value j
  pub ahead : (j : ℕ) → i ≤ j → get_or now j 0 ≡ get_or before j 0

pub up_to_start : {value : ℕ → ℕ} {before : List ℕ} → UpTo value 0 before before
up_to_start = record { most = omega arith; size = refl; passed = λ j h. absurd (omega arith); ahead = λ j h. refl }

pub up_to_next : (value : ℕ → ℕ) (i next : ℕ) (before now : List ℕ) → UpTo value i before now → i < length before → next ≡ value i
    → UpTo value (i + 1) before (set now i next)
up_to_next value i next before now so_far h e = record {
  most = omega arith;
  size = length-set now i next ∙ so_far.size;
  passed = λ j p. go j p (eqb j i) refl;
  ahead = λ j p. get_or-set_other now i j next 0 (λ (q : j ≡ i). omega arith) ∙ so_far.ahead j (omega arith);
}
  where
    go : (j : ℕ) → j < i + 1 → (t : Bool) → eqb j i ≡ t → get_or (set now i next) j 0 ≡ value j
    go j p true q = let size = so_far.size in rw (eqb-true j i q) (get_or-set_same now i next 0 (omega arith) ∙ e)
    go j p false q = let n = eqb-false j i q in get_or-set_other now i j next 0 n ∙ so_far.passed j (omega arith)
