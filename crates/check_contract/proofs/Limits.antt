-- Numbers 1 and 2 bound the sections, so that the rooms hold them.
use Rattle.std.specs.Prelude.{◌≡◌, ◌||◌, ◌+◌, ◌*◌, ◌-◌, ◌≤◌}
use Rattle.kit.specs.Names.{ap, sym, ◌∙◌, false, List, ℕ, zero, suc, arith, eqb, ltb, length, take}
use Rattle.kit.specs.Names.{length-take-le, ltb-false, eqb-true, not-false}
use Rattle.definitions.specs.Basics.{any}
use Rattle.definitions.specs.ContractFile.{byte_at, function_end, functions_end, function_record, function_records, file_end}
use Rattle.definitions.specs.Reading.{functions_passed, nodes_begin, functions_read}
use Rattle.definitions.specs.Numbers.{ends_wrongly}
use Rattle.theory_laws.proofs.Records.{force_is, parameters_length}
use Rattle.theory_laws.proofs.TruthValues.{or_left, or_right}
use Rattle.file_bytes.specs.declared.Layout.{Layout}
use Rattle.check_01_02_counts.proofs.ManyParameters.{limits, has_many_parameters}
use Rattle.check_contract.specs.Decoding.{Room, Counted}

-- A function of at most eight parameters has nineteen bytes at most, and three at least.
record Ends (count : ℕ) (file : List ℕ) (at : ℕ) : Type 0 where
  least : at + 3 * count ≤ functions_end count file at
  most : functions_end count file at ≤ at + 19 * count

ends_near : (count : ℕ) (file : List ℕ) (at : ℕ) → any has_many_parameters (function_records count file at) ≡ false → Ends count file at
unfolding any functions_read functions_passed
ends_near zero file at few = record { least = omega arith; most = omega arith }
ends_near (suc count) file at few =
    let own = ltb-false 8 (length (function_record file at).parameters) (or_left (has_many_parameters (function_record file at)) _ few) in
    let counted = parameters_length (byte_at file at) file (at + 1) in
    let end = function_end file at in
    let later = ends_near count file end (ap (any has_many_parameters) (sym (force_is end (function_records count file))) ∙ or_right (has_many_parameters (function_record file at)) _ few) in
    let same = force_is end (functions_end count file) in
    record { least = omega (arith, later.least); most = omega (arith, later.most) }

pub record Limits (file : List ℕ) (l : Layout) : Type 0 where
  pub fields : l.fields ≤ 64
  pub functions : l.functions ≤ 16
  pub nodes : l.nodes ≤ 512
  pub least : l.functions_at + 1 + 3 * l.functions ≤ l.nodes_at
  pub most : l.nodes_at ≤ l.functions_at + 1 + 19 * l.functions

pub counted_limits : (file : List ℕ) (l : Layout) → Counted file l → Limits file l
unfolding nodes_begin
counted_limits file l c =
    let is = c.layout in
    let many = any has_many_parameters (function_records l.functions file (l.functions_at + 1)) in
    let off = sym (limits file l is) ∙ c.counts in
    let three = ltb 64 l.fields || eqb l.functions 0 || ltb 16 l.functions in
    let four = or_left (three || many) (ltb 512 l.nodes) off in
    let counts = or_left three many four in
    let two = or_left (ltb 64 l.fields || eqb l.functions 0) (ltb 16 l.functions) counts in
    let near = ends_near l.functions file (l.functions_at + 1) (or_right three many four) in
    let end : functions_end l.functions file (l.functions_at + 1) ≡ l.nodes_at =
    (λ i. functions_end (is.functions i) file (is.functions_start i + 1)) ∙ sym is.nodes_start in
    record {
      fields = ltb-false 64 l.fields (or_left (ltb 64 l.fields) (eqb l.functions 0) two);
      functions = ltb-false 16 l.functions (or_right (ltb 64 l.fields || eqb l.functions 0) (ltb 16 l.functions) counts);
      nodes = ltb-false 512 l.nodes (or_right (three || many) (ltb 512 l.nodes) off);
      least = omega (arith, near.least);
      most = omega (arith, near.most);
    }

-- The fronts of the rooms are as long as the counts say.
pub room_made : (file : List ℕ) (l : Layout) (fields functions parameters nodes owners : List ℕ) → Counted file l → 192 ≡ length fields
    → 48 ≡ length functions → 256 ≡ length parameters → 5 * l.nodes ≤ length nodes → l.nodes ≤ length owners
    → Room file l (take (3 * l.fields) fields) (take (3 * l.functions) functions) (take (l.nodes_at - (l.functions_at + 1 + 3 * l.functions)) parameters) (take (5 * l.nodes) nodes) owners
unfolding ends_wrongly
room_made file l fields functions parameters nodes owners c a b d e o =
    let within = counted_limits file l c in
    let long_fields = length-take-le (3 * l.fields) fields (omega (arith, within.fields)) in
    let long_functions_law = length-take-le (3 * l.functions) functions (omega (arith, within.functions)) in
    let between = l.nodes_at - (l.functions_at + 1 + 3 * l.functions) in
    let long_parameters_law = length-take-le between parameters (omega (arith, within.functions, within.least, within.most)) in
    let long_nodes_law = length-take-le (5 * l.nodes) nodes e in
    record {
      decodable = record {
        layout = c.layout;
        ends = eqb-true (length file) (file_end file) (not-false _ c.ends);
        for_fields = long_fields;
        for_functions = long_functions_law;
        for_parameters = omega (arith, within.least);
        for_nodes = long_nodes_law;
        small = omega (arith, within.functions, within.least, within.most);
      };
      shaped = record {
        whole_functions = omega arith;
        whole_nodes = omega arith;
        few_functions = omega (arith, within.functions);
        few_nodes = omega (arith, within.nodes);
      };
      few_fields = omega (arith, within.fields);
      counts = c.counts;
      column = omega arith;
    }
