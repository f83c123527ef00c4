-- What is made of each entry of a log, one entry after another: tag, variable, owner code, node, last.
use Rattle.std.specs.Prelude.{◌∷◌, ◌++◌}
use Rattle.kit.specs.Names.{cond, List, [], ℕ, eqb, length}

abbrev pub FromEntry : Type 0
FromEntry = ℕ → ℕ → ℕ → ℕ → ℕ → List ℕ

-- A log ends where fewer than five numbers are left.
unfoldable pub per_entry : FromEntry → List ℕ → List ℕ
per_entry make [] = []
per_entry make (a ∷ []) = []
per_entry make (a ∷ b ∷ []) = []
per_entry make (a ∷ b ∷ c ∷ []) = []
per_entry make (a ∷ b ∷ c ∷ d ∷ []) = []
per_entry make (tag ∷ variable ∷ owner ∷ node ∷ last ∷ numbers) = make tag variable owner node last ++ per_entry make numbers

-- How many entries have a tag.
abbrev pub of_tag : ℕ → FromEntry
of_tag wanted tag variable owner node last = cond (eqb tag wanted) (0 ∷ []) []

abbrev pub count_tag : ℕ → List ℕ → ℕ
count_tag wanted log = length (per_entry (of_tag wanted) log)
