-- A contract's fields as the decoded slice holds them, and the least fault of one and of all.
use Rattle.std.specs.Prelude.{◌/◌}
use Rattle.kit.specs.Names.{List, map, ℕ, length}
use Rattle.definitions.specs.Basics.{flat_map}
use Rattle.definitions.specs.ContractFile.{Field, field_at, field_of}
use Rattle.definitions.specs.Numbers.{field_faults}
use Rattle.file_decoded.specs.Slices.{fields_from}
use Rattle.rules_faults.specs.Faults.{least_fault}

abbrev pub fields_in : List ℕ → List Field
fields_in fields = map field_of (fields_from (length fields / 3) fields 0)

abbrev pub owner_fault : List ℕ → ℕ → ℕ
owner_fault fields f = least_fault (field_faults (fields_in fields) (field_at (fields_in fields) f))

abbrev pub all_fields_fault : List ℕ → ℕ
all_fields_fault fields = least_fault (flat_map (field_faults (fields_in fields)) (fields_in fields))
