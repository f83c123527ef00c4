-- Calls one after another, and numbers one after another.
use Rattle.std.specs.Prelude.{◌≡◌, ◌∷◌, ◌++◌, ◌+◌, ◌-◌, ◌<◌, ◌≤◌}
use Rattle.kit.specs.Names.{ap, sym, ◌∙◌, true, List, append-nil, ℕ, zero, suc, arith, add-one, length}
use Rattle.kit.specs.Names.{set, take, take-suc-set, append_snoc, eqb-true}
use Rattle.theory_laws.proofs.Records.{force_is}
use Rattle.rehearse_scripts.specs.Scripts.{four_bytes_at, call_count, calls_at, call_end, calls_end, is_script, numbers_at}

calls_step : (k : ℕ) (s : List ℕ) (at : ℕ) → 0 < k → calls_end k s at ≡ calls_end (k - 1) s (call_end s at)
unfolding calls_end
calls_step zero s at h = absurd (omega arith)
calls_step (suc k) s at h =
    let e : suc k - 1 ≡ k = omega arith in
    rw e (force_is (call_end s at) (calls_end k s))

pub calls_next : (k : ℕ) (s : List ℕ) (at next goal : ℕ) → 0 < k → next ≡ call_end s at → calls_end k s at ≡ goal → calls_end (k - 1) s next ≡ goal
calls_next k s at next goal h e inv = rw e (sym (calls_step k s at h) ∙ inv)

pub calls_done : (k : ℕ) (s : List ℕ) (at goal : ℕ) → k ≤ 0 → calls_end k s at ≡ goal → at ≡ goal
unfolding calls_end
calls_done zero s at goal h inv = inv
calls_done (suc k) s at goal h inv = absurd (omega arith)

-- Calls end behind where they begin.
calls_above : (k : ℕ) (s : List ℕ) (at : ℕ) → at ≤ calls_end k s at
unfolding calls_end
calls_above zero s at = omega arith
calls_above (suc k) s at =
    let e = force_is (call_end s at) (calls_end k s) in
    let h = calls_above k s (call_end s at) in
    omega arith

-- The file and the addresses of a script lie inside it.
pub parts_inside : (s : List ℕ) → is_script s ≡ true → calls_at s ≤ length s
unfolding is_script
parts_inside s h =
    let ends = eqb-true (length s) (calls_end (call_count s) s (calls_at s)) h in
    let above = calls_above (call_count s) s (calls_at s) in
    omega arith

-- One number more is read.
module _ (s : List ℕ) (count at i : ℕ) (made goal : List ℕ) where
  numbers_step : i < count → numbers_at (count - i) s at ≡ four_bytes_at s at ∷ numbers_at (count - (i + 1)) s (at + 4)
  unfolding numbers_at
  numbers_step h =
      let e : count - i ≡ suc (count - (i + 1)) = omega arith in
      rw e

  pub arguments_next : (v : ℕ) → i < count → i < length made → v ≡ four_bytes_at s at → take i made ++ numbers_at (count - i) s at ≡ goal
      → take (i + 1) (set made i v) ++ numbers_at (count - (i + 1)) s (at + 4) ≡ goal
  arguments_next v h room e inv =
      let rest = numbers_at (count - (i + 1)) s (at + 4) in
      ap (λ (n : ℕ). take n (set made i v) ++ rest) (add-one i)
      ∙ ap (λ (l : List ℕ). l ++ rest) (take-suc-set made i v room)
      ∙ append_snoc (take i made) v rest
      ∙ ap (λ (n : ℕ). take i made ++ (n ∷ rest)) e
      ∙ ap (λ (l : List ℕ). take i made ++ l) (sym (numbers_step h)) ∙ inv

  pub arguments_done : i ≤ count → count ≤ i → take i made ++ numbers_at (count - i) s at ≡ goal → take count made ≡ goal
  unfolding numbers_at
  arguments_done a b inv =
      let none : count - i ≡ 0 = omega arith in
      let same : i ≡ count = omega arith in
      sym (append-nil (take count made)) ∙ (rw (none, same) at inv)
