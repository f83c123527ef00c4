-- Owners, names and places as the codes that a file and the code use for them.
use Rattle.std.specs.Prelude.{◌≡◌, ◌<◌}
use Rattle.kit.specs.Names.{true, cond, List, Option, none, some, ℕ, eqb}
use Rattle.definitions.specs.ContractFile.{Name, owned_by, field_count, owner_code}
use Rattle.definitions.specs.Numbers.{field_in_tables}
use Rattle.file_accepted.specs.Context.{field_record_at}

-- A name's owner code, and 0 for none.
abbrev pub name_code : Option Name → ℕ
name_code none = 0
name_code (some n) = owner_code (owned_by n)

-- The code of what is made of two parts.
abbrev pub parts_code : ℕ → ℕ → ℕ
parts_code left right = cond (eqb left 0) (cond (eqb right 0) 0 1) 1

-- The code of a place, from its field's owner code and its key's name code.
abbrev pub place_code : ℕ → ℕ → ℕ
place_code owner key = cond (eqb owner 2) (cond (eqb key 0) 1 key) owner

pub record FieldsListed (file : List ℕ) : Type 0 where
  pub at : (f : ℕ) → f < field_count file → field_in_tables (field_record_at file f) ≡ true
