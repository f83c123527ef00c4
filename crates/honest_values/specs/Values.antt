-- What the original works out on numbers. Of the addresses that names stand for it asks only the caller's.
use Rattle.kit.specs.Names.{List, ℕ}
use Rattle.definitions.specs.ContractFile.{Name, Expression, Statement}
use Rattle.definitions.specs.Original.{value, places_after}
use Rattle.file_accepted.specs.Context.{fields_in}
use Rattle.file_decoded.specs.Slices.{record_at}

unfoldable pub value_of : List ℕ → List ℕ → ℕ → List ℕ → Expression → ℕ
value_of file arguments caller numbers e = value (fields_in file) (λ (n : Name). caller) arguments numbers e

unfoldable pub numbers_after : List ℕ → List ℕ → ℕ → List ℕ → Statement → List ℕ
numbers_after file arguments caller numbers s = places_after (fields_in file) (λ (n : Name). caller) arguments numbers s

abbrev pub kind_at : List ℕ → ℕ → ℕ
kind_at source n = (record_at source n).kind
