-- 01, Rewriting: a function's heading, put together from what the code appends.
use Rattle.std.specs.Prelude.{◌∷◌, ◌++◌, ◌+◌}
use Rattle.kit.specs.Names.{List, [], ℕ, length}
use Rattle.definitions.specs.Basics.{two_bytes}
use Rattle.definitions.specs.Rewriting.{each_once}
use Rattle.write_variables.specs.PerEntry.{per_entry, count_tag}
use Rattle.write_variables.specs.Variables.{variable_of, key_code}
use Rattle.write_parameters.specs.Parameters.{parameters_from, private_count, opening_variables, opening_claims}

-- "parameters; two-byte count of variables ..; two-byte count of owner codes needing keys ..; two-byte count of constraints ..; body root"
abbrev pub heading_of : ℕ → List ℕ → ℕ → List ℕ → ℕ → List ℕ → ℕ → List ℕ → ℕ → List ℕ
heading_of count parameters variables variable_list keys key_list constraints constraint_list root =
    (count ∷ parameters)
    ++ two_bytes variables
    ++ variable_list
    ++ two_bytes keys
    ++ key_list
    ++ two_bytes constraints
    ++ constraint_list
    ++ two_bytes root

-- The heading of the function whose parameters stand in a file from a place on, from the log of its body's events:
-- so many variables and constraints.
unfoldable pub logged_heading : List ℕ → ℕ → ℕ → List ℕ → ℕ → List ℕ → ℕ → List ℕ
logged_heading file start count log made constraint_list root =
    let private = private_count count file start in
    heading_of count (parameters_from count file start)
    (private + made) (opening_variables private ++ per_entry variable_of log)
    (length (each_once [] (per_entry key_code log))) (each_once [] (per_entry key_code log))
    (private + count_tag 1 log) (opening_claims 0 private ++ constraint_list)
    root
