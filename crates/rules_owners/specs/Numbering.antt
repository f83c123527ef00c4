-- Owners and names by number: 0 all, 1 the caller, 2 + k parameter k (k 0 to 7), 10 + f final f.
use Rattle.std.specs.Prelude.{◌||◌, ◌+◌, ◌-◌}
use Rattle.kit.specs.Names.{Bool, cond, Option, none, some, ℕ, eqb, ltb}
use Rattle.definitions.specs.Basics.{is_zero}
use Rattle.definitions.specs.ContractFile.{Name, me_name, final_name, parameter_name, Owner, everyone, owned_by, FieldOwner, to_everyone, to_key}
use Rattle.definitions.specs.ContractFile.{to_final, is_final_code}

abbrev pub name_numbered : ℕ → Name
name_numbered n = cond (eqb n 1) me_name (cond (ltb n 10) (parameter_name (n - 2)) (final_name (n - 10)))

-- 0 is no name.
abbrev pub name_with : ℕ → Option Name
name_with n = cond (eqb n 0) none (some (name_numbered n))

abbrev pub owner_with : ℕ → Owner
owner_with n = cond (eqb n 0) everyone (owned_by (name_numbered n))

abbrev pub number_of_name : Name → ℕ
number_of_name me_name = 1
number_of_name (final_name f) = 10 + f
number_of_name (parameter_name k) = 2 + k

abbrev pub number_of_owner : Owner → ℕ
number_of_owner everyone = 0
number_of_owner (owned_by n) = number_of_name n

-- A field's owner code: 0, 16+f or 2.
abbrev pub is_field_code : ℕ → Bool
is_field_code code = is_zero code || is_final_code code || eqb code 2

abbrev pub declared_number : ℕ → ℕ
declared_number code = cond (ltb code 16) 0 (code - 6)

-- A field's owner, from the number that its code names and whether it is the tag "the mapping's key".
abbrev pub declared_owner : ℕ → Bool → FieldOwner
declared_owner n tagged = cond tagged to_key (cond (eqb n 0) to_everyone (to_final (n - 10)))
