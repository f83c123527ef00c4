-- A line of `disclose`: the call's number in decimal, and each value that it discloses in decimal after a space.
use Rattle.std.specs.Prelude.{◌≡◌, ◌∷◌, ◌++◌, ◌+◌, ◌*◌, ◌≤◌}
use Rattle.kit.specs.Names.{Bool, cond, List, [], ℕ, leb, length}
use Rattle.memory_buffer.specs.Buffer.{stored}
use Rattle.definitions.specs.Basics.{flat_map}
use Rattle.definitions.specs.Report.{decimal}

abbrev pub spaced_value : ℕ → List ℕ
spaced_value v = 32 ∷ decimal v

abbrev pub disclosed_line : ℕ → List ℕ → List ℕ
disclosed_line number values = decimal number ++ flat_map spaced_value values ++ (10 ∷ [])

-- Room for twenty digits and the line feed, and for a space and twenty digits a value.
abbrev pub has_room : List ℕ → List ℕ → Bool
has_room values out = leb (21 + 21 * length values) (length out)

-- The line stands at the front of an output with room for it; another output stays as it is.
pub record LineWritten (number : ℕ) (values before after : List ℕ) (r : ℕ) : Type 0 where
  pub long : r ≡ cond (has_room values before) (length (disclosed_line number values)) 0
  pub output : after ≡ cond (has_room values before) (stored before 0 (disclosed_line number values)) before
  pub inside : r ≤ length before
