-- 01, Numbers: what an accepted file's answer is, and what the lent output holds then.
use Rattle.std.specs.Prelude.{◌≡◌, ◌∷◌, ◌++◌}
use Rattle.kit.specs.Names.{cond, List, [], ℕ, ltb, length, drop}
use Rattle.definitions.specs.Basics.{first_that_holds}
use Rattle.definitions.specs.Crossings.{sixteen, crossings_after_writing}
use Rattle.definitions.specs.Rewriting.{write_number, written_length, output_after_writing}

-- What the entry promises of a file, the output before and after, the number, the length and the counts.
abbrev pub Promised : List ℕ → List ℕ → List ℕ → ℕ → ℕ → List ℕ → Type 0
Promised file held after number long counts =
    (number ≡ write_number file (length held))
    × ((long ≡ written_length file (length held))
    × ((counts ≡ crossings_after_writing file (length held)) × (after ≡ output_after_writing file held)))

-- The written bytes stand at the front of the output, or it is too short for them and keeps its contents.
pub record HandedOut (whole held after : List ℕ) (n l : ℕ) : Type 0 where
  pub number : n ≡ first_that_holds 16 (ltb (length held) (length whole) ∷ [])
  pub long : l ≡ cond (ltb (length held) (length whole)) 0 (length whole)
  pub output : after ≡ cond (ltb (length held) (length whole)) held (whole ++ drop (length whole) held)

-- The counts go out with the bytes; of an output that is too short, none.
pub record CountsOut (whole held counts handed : List ℕ) : Type 0 where
  pub told : handed ≡ cond (ltb (length held) (length whole)) (sixteen []) counts
