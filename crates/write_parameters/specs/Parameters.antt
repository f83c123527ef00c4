-- 01, Rewriting: the written parameters of a function, and what reading its private ones first makes.
use Rattle.std.specs.Prelude.{◌∷◌, ◌++◌}
use Rattle.kit.specs.Names.{not, cond, List, [], map, ℕ, zero, suc, eqb, length}
use Rattle.definitions.specs.Basics.{flat_map, two_bytes}
use Rattle.definitions.specs.ContractFile.{ParameterRecord, parameter_records, parameter_of}
use Rattle.definitions.specs.Rewriting.{private_parameters, parameter_bytes}

abbrev pub parameter_read : ℕ → ℕ → ParameterRecord
parameter_read type owner = record { type = type; owner = owner }

-- The parameters that stand in a file from a place on.
unfoldable pub parameters_from : ℕ → List ℕ → ℕ → List ℕ
parameters_from n file at = flat_map parameter_bytes (map parameter_of (parameter_records n file at))

unfoldable pub private_count : ℕ → List ℕ → ℕ → ℕ
private_count n file at = length (private_parameters 0 (map parameter_of (parameter_records n file at)))

abbrev pub one_if_private : ℕ → ℕ
one_if_private owner = cond (not (eqb owner 0)) 1 0

-- "First, each private parameter is read": cells of the caller's, origin 3 and owner code 1.
unfoldable pub opening_variables : ℕ → List ℕ
opening_variables zero = []
opening_variables (suc n) = 3 ∷ 1 ∷ opening_variables n

-- ".. with a constraint that it opens for the caller": no guard, variables from a number on, 65,535 for "opens".
unfoldable pub opening_claims : ℕ → ℕ → List ℕ
opening_claims i zero = []
opening_claims i (suc n) = (two_bytes 0 ++ two_bytes i ++ two_bytes 65535) ++ opening_claims (suc i) n
