-- A field and a parameter of the scope, by their number: as the bytes at its place say, or what stands for none.
use Rattle.std.specs.Prelude.{◌≡◌, ◌+◌, ◌*◌, ◌<◌, ◌≤◌}
use Rattle.kit.specs.Names.{ap, ◌∙◌, true, List, map, ℕ, zero, suc, arith, get_or, length-map, get_or_eq_default}
use Rattle.kit.specs.Names.{length}
use Rattle.definitions.specs.ContractFile.{FieldRecord, Parameter, field_at, parameter_at, plain_field, boolean, to_everyone, byte_at, field_count, field_records, parameter_records, field_of, parameter_of}
use Rattle.definitions.specs.Reading.{parameters_read}
use Rattle.theory_laws.proofs.Records.{field_record, fields_length, parameters_length}
use Rattle.file_bytes.proofs.Sections.{fields_are}
use Rattle.file_accepted.specs.Context.{fields_in, parameters_in, field_record_at, parameter_record_at}
use Rattle.file_accepted.proofs.Accepted.{mapped_at}

parameters_at : (c : ℕ) (file : List ℕ) (at k : ℕ) (other : Parameter) → k < c
    → get_or (map parameter_of (parameter_records c file at)) k other ≡ parameter_of (record { type = byte_at file (at + 2 * k); owner = byte_at file (at + 2 * k + 1) })
unfolding parameters_read
parameters_at zero file at k other h = absurd (omega arith)
parameters_at (suc c) file at zero other h = let e : at + 2 * 0 ≡ at = omega arith in rw e
parameters_at (suc c) file at (suc k) other h = let e : at + 2 * suc k ≡ at + 2 + 2 * k = omega arith in rw e (parameters_at c file (at + 2) k other (omega arith))

module _ (file : List ℕ) (f : ℕ) where
  pub field_declared : f < field_count file → field_at (fields_in file) f ≡ field_of (field_record_at file f)
  unfolding fields_in
  field_declared h =
      let other : FieldRecord = record { shape = 0; type = 0; owner = 0 } in
      rw (fields_are file) (mapped_at field_of (field_records (field_count file) file 1) f _ other (omega (arith, fields_length (field_count file) file 1))
      ∙ ap field_of (field_record (field_count file) file 1 f other h))

  pub field_missing : field_count file ≤ f → field_at (fields_in file) f ≡ record { shape = plain_field; type = boolean; owner = to_everyone }
  unfolding fields_in
  field_missing h =
      rw (fields_are file) (get_or_eq_default (map field_of (field_records (field_count file) file 1)) _ {n = f} (simp (length-map, fields_length) h))

pub parameters_count : (file : List ℕ) (at : ℕ) → length (parameters_in file at) ≡ byte_at file at
unfolding parameters_in
parameters_count file at = length-map (parameter_records (byte_at file at) file (at + 1)) parameter_of ∙ parameters_length (byte_at file at) file (at + 1)

module _ (file : List ℕ) (at k : ℕ) where
  pub parameter_declared : k < byte_at file at → parameter_at (parameters_in file at) k ≡ parameter_of (parameter_record_at file at k)
  unfolding parameters_in
  parameter_declared h = parameters_at (byte_at file at) file (at + 1) k _ h

  pub parameter_missing : byte_at file at ≤ k → parameter_at (parameters_in file at) k ≡ record { type = boolean; private = true }
  parameter_missing h = get_or_eq_default (parameters_in file at) _ (omega (arith, parameters_count file at))
