-- Counting records one behind another: one more, the last, none left.
use Rattle.std.specs.Prelude.{◌≡◌, ◌∷◌, ◌+◌, ◌-◌, ◌<◌, ◌≤◌}
use Rattle.kit.specs.Names.{refl, ap, ◌∙◌, Bool, cond, List, [], ℕ, zero, suc, arith, ltb, length, lt-ltb}
use Rattle.kit.specs.Names.{le-ltb}
use Rattle.definitions.specs.Basics.{count_if}
use Rattle.test_programs.specs.Records.{starts_from}

-- The records from a place on.
abbrev pub starts_left : (ℕ → ℕ) → ℕ → ℕ → List ℕ
starts_left end long at = starts_from end long (long - at) at

module _ (end : ℕ → ℕ) (long : ℕ) (further : (at : ℕ) → at < end at) where
  -- Levels that suffice are as good as any more.
  same_starts : (f g at : ℕ) → long ≤ at + f → long ≤ at + g → starts_from end long f at ≡ starts_from end long g at
  unfolding starts_from
  same_starts zero zero at a b = refl
  same_starts zero (suc g) at a b = rw (le-ltb at long (omega arith))
  same_starts (suc f) zero at a b = rw (le-ltb at long (omega arith))
  same_starts (suc f) (suc g) at a b =
      ap (λ (l : List ℕ). cond (ltb at long) (at ∷ l) []) (same_starts f g (end at) (omega (arith, further at)) (omega (arith, further at)))

  starts_next : (at : ℕ) → at < long → starts_left end long at ≡ at ∷ starts_left end long (end at)
  unfolding starts_from
  starts_next at h =
      let more : long - at ≡ suc (long - suc at) = omega arith in
      ap (λ (n : ℕ). starts_from end long n at) more
      ∙ ap (λ (b : Bool). cond b (at ∷ starts_from end long (long - suc at) (end at)) []) (lt-ltb at long h)
      ∙ ap (λ (l : List ℕ). at ∷ l) (same_starts (long - suc at) (long - end at) (end at) (omega (arith, further at)) (omega arith))

  starts_done : (at : ℕ) → long ≤ at → starts_left end long at ≡ []
  unfolding starts_from
  starts_done at h = let none : long - at ≡ 0 = omega arith in ap (λ (n : ℕ). starts_from end long n at) none

  module _ (test : ℕ → Bool) (count whole at : ℕ) (so_far : count + count_if test (starts_left end long at) ≡ whole) where
    pub count_next : at < long → (count + cond (test at) 1 0) + count_if test (starts_left end long (end at)) ≡ whole
    unfolding count_if
    count_next h = let e = ap (count_if test) (starts_next at h) in omega (arith, so_far)

    pub count_done : long ≤ at → count ≡ whole
    unfolding count_if
    count_done h = let e = ap (count_if test) (starts_done at h) in omega (arith, so_far)

  pub count_last : (test : ℕ → Bool) (count whole at : ℕ) → count + count_if test (starts_left end long at) ≡ whole → at < long → long ≤ end at
      → count + cond (test at) 1 0 ≡ whole
  count_last test count whole at so_far h cut =
      count_done test (count + cond (test at) 1 0) whole (end at) (count_next test count whole at so_far h) cut

  module _ (count whole at : ℕ) (so_far : count + length (starts_left end long at) ≡ whole) where
    pub many_next : at < long → (count + 1) + length (starts_left end long (end at)) ≡ whole
    many_next h = let e = ap length (starts_next at h) in omega (arith, so_far)

    pub many_done : long ≤ at → count ≡ whole
    many_done h = let e = ap length (starts_done at h) in omega (arith, so_far)
