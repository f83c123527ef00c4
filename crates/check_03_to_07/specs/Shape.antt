-- 01, Numbers: the sentences 3 to 7, which are told of a file's sections.
use Rattle.std.specs.Prelude.{◌∷◌}
use Rattle.kit.specs.Names.{List, [], ℕ}
use Rattle.definitions.specs.Basics.{first_that_holds}
use Rattle.definitions.specs.ContractFile.{Sections}
use Rattle.definitions.specs.Numbers.{outside_tables, names_nothing, used_other_than_once, too_deep, wrong_sort}
use Rattle.file_decoded.specs.Slices.{Shaped, ParametersInside}

unfoldable pub sections_number : Sections → ℕ
sections_number s = first_that_holds 3 (outside_tables s ∷ names_nothing s ∷ used_other_than_once s ∷ too_deep s ∷ wrong_sort s ∷ [])

-- Slices of whole records, within number 2's limits.
pub record Held (functions parameters nodes : List ℕ) : Type 0 where
  pub shaped : Shaped functions nodes
  pub inside : ParametersInside functions parameters
