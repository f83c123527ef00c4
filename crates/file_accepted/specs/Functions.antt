-- Where function f of a file begins, and the number of its root node.
use Rattle.std.specs.Prelude.{◌+◌, ◌-◌}
use Rattle.kit.specs.Names.{List, ℕ}
use Rattle.definitions.specs.ContractFile.{two_bytes_at, functions_at, function_end, functions_end}

abbrev pub function_start : List ℕ → ℕ → ℕ
function_start file f = functions_end f file (functions_at file + 1)

-- The root of the function that begins at a place.
abbrev pub root_at : List ℕ → ℕ → ℕ
root_at file at = two_bytes_at file (function_end file at - 2)
