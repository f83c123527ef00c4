-- A line of a rehearsal: "the number in decimal, a space, and the party's view after it in lowercase hexadecimal".
use Rattle.std.specs.Prelude.{◌≡◌, ◌∷◌, ◌++◌, ◌+◌, ◌*◌, ◌/◌, ◌%◌, ◌≤◌}
use Rattle.kit.specs.Names.{Bool, cond, List, [], ℕ, ltb, leb, length}
use Rattle.memory_buffer.specs.Buffer.{stored}
use Rattle.definitions.specs.Basics.{flat_map}
use Rattle.definitions.specs.Report.{decimal}

-- 0 to 9, then a to f.
abbrev pub hex_digit : ℕ → ℕ
hex_digit n = cond (ltb n 10) (48 + n) (87 + n)

abbrev pub hex_byte : ℕ → List ℕ
hex_byte b = hex_digit (b / 16) ∷ hex_digit (b % 16) ∷ []

abbrev pub hex_text : List ℕ → List ℕ
hex_text bytes = flat_map hex_byte bytes

abbrev pub view_line : ℕ → List ℕ → List ℕ
view_line number view = decimal number ++ (32 ∷ hex_text view) ++ (10 ∷ [])

-- Room for three digits, the space, the view and the line feed.
abbrev pub has_room : List ℕ → List ℕ → Bool
has_room view out = leb (5 + 2 * length view) (length out)

-- The line stands at the front of an output with room for it; another output stays as it is.
pub record LineWritten (number : ℕ) (view before after : List ℕ) (r : ℕ) : Type 0 where
  pub long : r ≡ cond (has_room view before) (length (view_line number view)) 0
  pub output : after ≡ cond (has_room view before) (stored before 0 (view_line number view)) before
  pub inside : r ≤ length before
