-- 01, Rewriting: the written fields of a file whose codes are in the tables.
use Rattle.std.specs.Prelude.{◌≡◌, ◌∷◌, ◌<◌, ◌≤◌}
use Rattle.kit.specs.Names.{true, cond, List, map, ℕ, eqb}
use Rattle.definitions.specs.Basics.{flat_map}
use Rattle.definitions.specs.ContractFile.{FieldRecord, field_count, field_records, field_of}
use Rattle.definitions.specs.Numbers.{field_in_tables}
use Rattle.definitions.specs.Rewriting.{field_bytes}
use Rattle.file_accepted.specs.Context.{field_record_at, fields_in}

abbrev pub field_read : ℕ → ℕ → ℕ → FieldRecord
field_read shape type owner = record { shape = shape; type = type; owner = owner }

abbrev pub written_type : ℕ → ℕ → ℕ
written_type type owner = cond (eqb owner 0) type 3

unfoldable pub written_field : FieldRecord → List ℕ
written_field r = field_bytes (field_of r)

-- The fields that stand in a file from a place on.
unfoldable pub fields_from : ℕ → List ℕ → ℕ → List ℕ
fields_from n file at = flat_map field_bytes (map field_of (field_records n file at))

abbrev pub field_section : List ℕ → List ℕ
field_section file = field_count file ∷ flat_map field_bytes (fields_in file)

-- Numbers 2 and 3, as far as they speak of fields.
pub record FieldsListed (file : List ℕ) (count : ℕ) : Type 0 where
  pub few : count ≤ 64
  pub listed : (f : ℕ) → f < count → field_in_tables (field_record_at file f) ≡ true
