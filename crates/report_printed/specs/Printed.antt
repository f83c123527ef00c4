-- 02, Note 3: a printed report as a reader takes it: its lines, and the number at the end of each.
use Rattle.std.specs.Prelude.{◌∷◌, ◌+◌, ◌*◌, ◌-◌}
use Rattle.kit.specs.Names.{cond, List, [], ℕ, eqb, length, get_or, take, drop}
use Rattle.definitions.specs.Report.{report_length, output_after_report}

-- A byte in front of a text's first line.
abbrev pub in_front : ℕ → List (List ℕ) → List (List ℕ)
in_front byte [] = (byte ∷ []) ∷ []
in_front byte (line ∷ lines) = (byte ∷ line) ∷ lines

-- The lines of a text, without the line feeds that end them.
unfoldable pub lines_of : List ℕ → List (List ℕ)
lines_of [] = []
lines_of (byte ∷ text) = cond (eqb byte 10) ([] ∷ lines_of text) (in_front byte (lines_of text))

abbrev pub last_line : List ℕ → List ℕ
last_line text = get_or (lines_of text) (length (lines_of text) - 1) []

-- "the lines above": those between the first line and the last.
abbrev pub lines_above : List ℕ → List (List ℕ)
lines_above text = take (length (lines_of text) - 2) (drop 1 (lines_of text))

-- The number that digits make, behind the number that the digits before them make.
unfoldable pub value_behind : ℕ → List ℕ → ℕ
value_behind before [] = before
value_behind before (digit ∷ digits) = value_behind (10 * before + (digit - 48)) digits

-- What stands behind a line's first space.
unfoldable pub behind_space : List ℕ → List ℕ
behind_space [] = []
behind_space (byte ∷ line) = cond (eqb byte 32) line (behind_space line)

abbrev pub number_in : List ℕ → ℕ
number_in line = value_behind 0 (behind_space line)

-- `total`, `refused`, and the space behind each.
abbrev pub total_word : List ℕ
total_word = 116 ∷ 111 ∷ 116 ∷ 97 ∷ 108 ∷ 32 ∷ []

abbrev pub refused_word : List ℕ
refused_word = 114 ∷ 101 ∷ 102 ∷ 117 ∷ 115 ∷ 101 ∷ 100 ∷ 32 ∷ []

-- What the report's entry has put into the lent output.
abbrev pub handed_out : List ℕ → List ℕ → List ℕ
handed_out file out = take (report_length file (length out)) (output_after_report file out)
