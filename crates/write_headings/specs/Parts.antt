-- 01, Rewriting: the parts of a function's heading, as code appends them.
use Rattle.std.specs.Prelude.{◌∷◌, ◌++◌, ◌+◌, ◌/◌, ◌≤◌}
use Rattle.kit.specs.Names.{List, [], ℕ, length}
use Rattle.definitions.specs.Basics.{two_bytes}
use Rattle.definitions.specs.ContractFile.{byte_at}
use Rattle.definitions.specs.Rewriting.{each_once}
use Rattle.write_circuits.specs.Circuits.{sixes_from}
use Rattle.write_variables.specs.PerEntry.{per_entry, count_tag}
use Rattle.write_variables.specs.Variables.{variable_of, key_code}
use Rattle.write_parameters.specs.Parameters.{parameters_from, private_count, opening_variables, opening_claims}

-- A count and the parameters, of the function that begins at a place of the file.
abbrev pub parameter_part : List ℕ → ℕ → List ℕ
parameter_part file at = byte_at file at ∷ parameters_from (byte_at file at) file (at + 1)

abbrev pub private_of : List ℕ → ℕ → ℕ
private_of file at = private_count (byte_at file at) file (at + 1)

abbrev pub variable_part : ℕ → ℕ → List ℕ → List ℕ
variable_part private made log = two_bytes (private + made) ++ opening_variables private ++ per_entry variable_of log

abbrev pub logged_keys : List ℕ → List ℕ
logged_keys log = each_once [] (per_entry key_code log)

abbrev pub key_part : List ℕ → List ℕ
key_part log = two_bytes (length (logged_keys log)) ++ logged_keys log

-- The bytes of constraints, of which four numbers each are given.
abbrev pub claims_of : List ℕ → List ℕ
claims_of numbers = sixes_from numbers 0 (length numbers / 4)

abbrev pub claim_part : ℕ → List ℕ → List ℕ → List ℕ
claim_part private log claims = two_bytes (private + count_tag 1 log) ++ opening_claims 0 private ++ claims

-- The whole heading, with the number of private parameters given.
abbrev pub parts_with : ℕ → List ℕ → ℕ → ℕ → List ℕ → List ℕ → ℕ → List ℕ
parts_with private file at made log claims root =
    parameter_part file at ++ (variable_part private made log ++ (key_part log ++ (claim_part private log claims ++ two_bytes root)))

unfoldable pub heading_parts : List ℕ → ℕ → ℕ → List ℕ → List ℕ → ℕ → List ℕ
heading_parts file at made log claims root = parts_with (private_of file at) file at made log claims root

-- The function begins near enough, its counts are numbers of two bytes, and there is room for its heading.
pub record HeadingFits (file : List ℕ) (at made : ℕ) (log claims : List ℕ) (root from room : ℕ) : Type 0 where
  pub near : at ≤ 200000
  pub variables : private_of file at + made ≤ 65535
  pub constraints : private_of file at + count_tag 1 log ≤ 65535
  pub bytes : from + length (heading_parts file at made log claims root) ≤ room
