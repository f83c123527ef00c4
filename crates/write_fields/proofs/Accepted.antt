-- The fields of an accepted file are few and in the tables.
use Rattle.std.specs.Prelude.{◌≡◌, ◌∷◌}
use Rattle.kit.specs.Names.{refl, Bool, true, false, List, ℕ, arith}
use Rattle.definitions.specs.Basics.{first_that_holds}
use Rattle.definitions.specs.ContractFile.{field_count, sections_of}
use Rattle.definitions.specs.Numbers.{ends_wrongly, count_off_limits, outside_tables, check_number}
use Rattle.file_accepted.proofs.Accepted.{few_fields_law, fields_listed}
use Rattle.write_fields.specs.Fields.{FieldsListed}

second_false : (a b c : Bool) (later : List Bool) → first_that_holds 1 (a ∷ b ∷ c ∷ later) ≡ 0 → b ≡ false
unfolding first_that_holds
second_false true b c later h = absurd (omega arith)
second_false false true c later h = absurd (omega arith)
second_false false false c later h = refl

third_false : (a b c : Bool) (later : List Bool) → first_that_holds 1 (a ∷ b ∷ c ∷ later) ≡ 0 → c ≡ false
unfolding first_that_holds
third_false true b c later h = absurd (omega arith)
third_false false true c later h = absurd (omega arith)
third_false false false true later h = absurd (omega arith)
third_false false false false later h = refl

pub accepted_fields : (file : List ℕ) → check_number file ≡ 0 → FieldsListed file (field_count file)
unfolding check_number
accepted_fields file accepted =
    record {
      few = few_fields_law file (second_false (ends_wrongly file) (count_off_limits file) (outside_tables (sections_of file)) _ accepted);
      listed = fields_listed file (third_false (ends_wrongly file) (count_off_limits file) (outside_tables (sections_of file)) _ accepted);
    }
