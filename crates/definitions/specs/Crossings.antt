-- 02, Note 2: "let writing hand back, beside its length, each function's count of variables with origins 0 to 3"; Note 3: "the number of
-- variables with origins 0 to 3 in the written file, counted there". A crossing is document 01's own term for such a variable. They are
-- counted in the written file, origin byte by origin byte.
use Rattle.std.specs.Prelude.{◌∷◌, ◌++◌, ◌+◌, ◌*◌, ◌-◌}
use Rattle.definitions.specs.Basics.{cond, List, [], map, flat_map, ℕ, zero, suc, eqb, leb, count_if}
use Rattle.definitions.specs.Basics.{length, replicate, force}
use Rattle.definitions.specs.ContractFile.{byte_at, two_bytes_at, functions_at, function_count}
use Rattle.definitions.specs.Rewriting.{written_file, write_number}

-- "each origin and owner code": the origins of so many variables from a place on.
unfoldable pub origins_at : ℕ → List ℕ → ℕ → List ℕ
origins_at zero written at = []
origins_at (suc more) written at = byte_at written at ∷ origins_at more written (at + 2)

-- "variables with origins 0 to 3"
abbrev pub up_to_three : List ℕ → ℕ
up_to_three origins = count_if (λ origin. leb origin 3) origins

-- "Written per function: parameters; two-byte count of variables ..; two-byte count of owner codes needing keys ..; two-byte count of
-- constraints ..; body root.": where the variables of the function that begins at a place are counted, and where the function ends.
abbrev pub variables_at : List ℕ → ℕ → ℕ
variables_at written at = at + 1 + 2 * byte_at written at

-- Behind a two-byte count and what it counts, so many bytes each.
abbrev pub behind_counted : ℕ → List ℕ → ℕ → ℕ
behind_counted size written at = at + 2 + size * two_bytes_at written at

unfoldable pub written_function_end : List ℕ → ℕ → ℕ
written_function_end written at =
    let keys_at = behind_counted 2 written (variables_at written at) in
    let constraints_at = behind_counted 1 written keys_at in
    let root_at = behind_counted 6 written constraints_at in
    root_at + 2

-- The origins of each function's variables, of so many functions from a place on.
unfoldable pub origins_from : ℕ → List ℕ → ℕ → List (List ℕ)
origins_from zero written at = []
origins_from (suc more) written at =
    origins_at (two_bytes_at written (variables_at written at)) written (variables_at written at + 2)
    ∷ force (written_function_end written at) (origins_from more written)

-- Fields and the count of functions stand in a written file as in input.
unfoldable pub origins_in : List ℕ → List (List ℕ)
origins_in written = origins_from (function_count written) written (functions_at written + 1)

-- "the count in the written file", of each function
unfoldable pub crossings_in : List ℕ → List ℕ
crossings_in written = map up_to_three (origins_in written)

-- 02, Note 3: "the number of variables with origins 0 to 3 in the written file, counted there": over the whole file.
unfoldable pub total_in : List ℕ → ℕ
total_in written = up_to_three (flat_map (λ origins. origins) (origins_in written))

-- "a refusal, or a function that isn't there, has 0": as many numbers as there can be functions.
abbrev pub sixteen : List ℕ → List ℕ
sixteen counts = counts ++ replicate (16 - length counts) 0

unfoldable pub crossings_after_writing : List ℕ → ℕ → List ℕ
crossings_after_writing file room =
    sixteen (cond (eqb (write_number file room) 0) (crossings_in (written_file file)) [])
