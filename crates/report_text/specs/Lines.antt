-- 01, File A, whole: a count as it stands in the report's lines. 02, Note 3: a line of a word and a number.
use Rattle.std.specs.Prelude.{◌∷◌, ◌++◌}
use Rattle.kit.specs.Names.{List, [], ℕ}
use Rattle.definitions.specs.Report.{decimal}

-- A count behind a space.
abbrev pub spaced_count : ℕ → List ℕ
spaced_count count = 32 ∷ decimal count

-- A word, which ends in a space, and the number behind it.
abbrev pub word_line : List ℕ → ℕ → List ℕ
word_line word number = word ++ decimal number ++ (10 ∷ [])
