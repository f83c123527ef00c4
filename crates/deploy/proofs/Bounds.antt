-- A file of number 0 is short enough for a ledger: "0 to 64" fields, "1 to 16" functions of at most 8 parameters, at most 512 nodes.
use Rattle.std.specs.Prelude.{◌≡◌, ◌||◌, ◌+◌, ◌*◌, ◌≤◌}
use Rattle.kit.specs.Names.{ap, sym, ◌∙◌, Bool, false, List, ℕ, zero, suc, arith, eqb, ltb, length, eqb-true}
use Rattle.kit.specs.Names.{ltb-false, not-false}
use Rattle.definitions.specs.Basics.{any, is_zero}
use Rattle.definitions.specs.ContractFile.{FunctionRecord, byte_at, field_count, function_count, functions_at, function_end, functions_end, node_count, file_end, parameter_records, function_record, function_records, sections_of}
use Rattle.definitions.specs.Reading.{functions_passed, nodes_begin, functions_read}
use Rattle.definitions.specs.Numbers.{ends_wrongly, count_off_limits, check_number}
use Rattle.definitions.specs.Ledger.{deploy_number}
use Rattle.theory_laws.proofs.Records.{force_is, parameters_length}
use Rattle.theory_laws.proofs.TruthValues.{or_else_first}
use Rattle.file_bytes.proofs.Sections.{functions_are}
use Rattle.file_children.proofs.Truth.{either_false}
use Rattle.theory_accepted.specs.Settled.{Settled}
use Rattle.theory_accepted.proofs.Sentences.{accepted_settled}
use Rattle.file_accepted.proofs.Accepted.{few_fields_law, few_functions_law, few_nodes_law}

abbrev many_parameters : FunctionRecord → Bool
many_parameters r = ltb 8 (length r.parameters)

-- A function of at most 8 parameters takes at most 19 bytes.
functions_near : (k : ℕ) (file : List ℕ) (at : ℕ) → any many_parameters (function_records k file at) ≡ false → functions_end k file at ≤ at + 19 * k
unfolding functions_read functions_passed any
functions_near zero file at h = omega arith
functions_near (suc k) file at h =
    let both = either_false (many_parameters (function_record file at)) _ h in
    let few = ltb-false 8 (length (parameter_records (byte_at file at) file (at + 1))) both.0 in
    let counted = parameters_length (byte_at file at) file (at + 1) in
    let later = rw (force_is (function_end file at) (function_records k file)) at both.1 in
    let near = functions_near k file (function_end file at) later in
    rw (force_is (function_end file at) (functions_end k file)) (omega arith)

module _ (file : List ℕ) (accepted : check_number file ≡ 0) where
  shaped : Settled file
  shaped = accepted_settled file accepted

  pub accepted_fields : field_count file ≤ 64
  accepted_fields = few_fields_law file shaped.counts

  no_parameters_off : any many_parameters (function_records (function_count file) file (functions_at file + 1)) ≡ false
  unfolding count_off_limits
  no_parameters_off =
      let off = any many_parameters (sections_of file).functions in
      let three = ltb 64 (field_count file) || is_zero (function_count file) || ltb 16 (function_count file) in
      let four = (either_false (three || off) (ltb 512 (node_count file)) shaped.counts).0 in
      ap (any many_parameters) (sym (functions_are file)) ∙ (either_false three off four).1

  -- 1 + 3 * 64 + 1 + 19 * 16 + 2 + 8 * 512
  pub accepted_length : length file ≤ 4596
  unfolding ends_wrongly nodes_begin
  accepted_length =
      let ends : length file ≡ file_end file = eqb-true (length file) (file_end file) (not-false (eqb (length file) (file_end file)) shaped.ends) in
      let near = functions_near (function_count file) file (functions_at file + 1) no_parameters_off in
      omega (arith, accepted_fields, few_functions_law file shaped.counts, few_nodes_law file shaped.counts)

-- A deployment of number 0 is of an accepted file.
pub deployed_accepted : (file addresses : List ℕ) (number : ℕ) → number ≡ deploy_number file addresses → number ≤ 0 → check_number file ≡ 0
unfolding deploy_number
deployed_accepted file addresses number e h =
    let none : deploy_number file addresses ≡ 0 = omega arith in
    or_else_first (check_number file) _ none
