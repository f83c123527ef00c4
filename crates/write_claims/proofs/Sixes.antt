-- The bytes of claims, six a claim, one claim after another.
use Rattle.std.specs.Prelude.{◌≡◌, ◌++◌, ◌+◌, ◌*◌, ◌-◌, ◌<◌, ◌≤◌}
use Rattle.kit.specs.Names.{refl, List, [], ℕ, zero, suc, arith, length, get_or, length-append}
use Rattle.memory_append.specs.Append.{Appended, Appending}
use Rattle.memory_append.proofs.Appending.{appending_room, appending_next, appending_done}
use Rattle.write_circuits.specs.Circuits.{six_bytes, sixes_from}

abbrev pub six_at : List ℕ → ℕ → List ℕ
six_at numbers i = six_bytes (get_or numbers i 0) (get_or numbers (i + 1) 0) (get_or numbers (i + 3) 0)

-- Of `count` claims the first ones are appended, and `left` of them are left.
abbrev pub SixesLeft : List ℕ → ℕ → List ℕ → ℕ → List ℕ → ℕ → ℕ → ℕ → Type 0
SixesLeft numbers count held from now at i left = Appending held now from at (sixes_from numbers 0 count) (sixes_from numbers i left)

module _ (numbers : List ℕ) where
  pub sixes_length : (i left : ℕ) → length (sixes_from numbers i left) ≡ 6 * left
  unfolding sixes_from
  sixes_length i zero = refl
  sixes_length i (suc left) = let h = sixes_length (i + 4) left in omega (arith, length-append (six_at numbers i) (sixes_from numbers (i + 4) left))

  sixes_next : (i left : ℕ) → 0 < left → sixes_from numbers i left ≡ six_at numbers i ++ sixes_from numbers (i + 4) (left - 1)
  unfolding sixes_from
  sixes_next i zero h = absurd (omega arith)
  sixes_next i (suc left) h = let less : suc left - 1 ≡ left = omega arith in rw less

  sixes_none : (i left : ℕ) → left ≡ 0 → sixes_from numbers i left ≡ []
  unfolding sixes_from
  sixes_none i zero h = refl
  sixes_none i (suc left) h = absurd (omega arith)

  -- A loop that appends one claim in each turn.
  module _ (count : ℕ) (held : List ℕ) (from : ℕ) (fits : from + 6 * count ≤ length held) where
    whole_fits : from + length (sixes_from numbers 0 count) ≤ length held
    whole_fits = let h = sixes_length 0 count in omega arith

    module _ (now : List ℕ) (at i left : ℕ) (a : SixesLeft numbers count held from now at i left) where
      pub six_room : 0 < left → at + 6 ≤ length now
      six_room h =
          appending_room held from (sixes_from numbers 0 count) now (six_at numbers i) (sixes_from numbers i left) (sixes_from numbers (i + 4) (left - 1)) at (sixes_next i left h) a whole_fits

      pub six_appended : 0 < left → (after : List ℕ) (end : ℕ) → Appended now after at (six_at numbers i) end → SixesLeft numbers count held from after end (i + 4) (left - 1)
      six_appended h after end b =
          appending_next held from (sixes_from numbers 0 count) now (six_at numbers i) (sixes_from numbers i left) (sixes_from numbers (i + 4) (left - 1)) at (sixes_next i left h) a whole_fits after end b

      pub sixes_done : left ≡ 0 → Appended held now from (sixes_from numbers 0 count) at
      sixes_done h = appending_done held from (sixes_from numbers 0 count) now (sixes_from numbers i left) at (sixes_none i left h) a
