-- 02, Note 9: a file that number 3 lets pass and its widened copy have the same sections, so all that stands behind reading says the same of both.
use Rattle.std.specs.Prelude.{◌≡◌, ◌||◌, ◌∷◌, ◌++◌, ◌+◌, ◌*◌, ◌<◌, ◌≤◌}
use Rattle.kit.specs.Names.{refl, ap, ◌∙◌, false, not, List, [], ℕ, zero, suc, arith, length}
use Rattle.definitions.specs.Basics.{any, two_bytes}
use Rattle.definitions.specs.Reading.{byte_at, two_bytes_at, Sections, narrow, fields_counted, functions_begin, functions_counted, function_passed, functions_passed, nodes_begin, nodes_counted, fields_read, functions_read, nodes_read, sections_read}
use Rattle.definitions.specs.Numbers.{field_in_tables, parameter_in_tables, outside_tables}
use Rattle.theory_laws.proofs.Records.{force_is, fields_length, node_records_length}
use Rattle.theory_laws.proofs.TruthValues.{or_left, or_right}
use Rattle.theory_crossings.proofs.Places.{HoldsFrom, byte_read, two_read, behind_run}
use Rattle.theory_layouts.specs.Wide.{wide, fields_laid, functions_laid, nodes_laid, sections_laid, widened}
use Rattle.theory_layouts.specs.Fitting.{RootsFit, NodesFit}
use Rattle.theory_layouts.proofs.Parts.{fields_back, functions_back, nodes_back}

module _ (s : Sections) (known : outside_tables s ≡ false) (few_fields : length s.fields ≤ 65535) (few_nodes : length s.nodes ≤ 65535)
    (roots : RootsFit s.functions) (fit : NodesFit s.nodes) where
  abbrev nodes_on : List ℕ
  nodes_on = two_bytes (length s.nodes) ++ nodes_laid wide s.nodes

  abbrev functions_on : List ℕ
  functions_on = length s.functions ∷ functions_laid wide s.functions nodes_on

  pub sections_back : sections_read wide (sections_laid wide s) ≡ s
  unfolding outside_tables sections_laid sections_read nodes_begin
  sections_back =
      let file = sections_laid wide s in
      let fields_unknown = any (λ r. not (field_in_tables r)) s.fields in
      let functions_unknown = any (λ r. any (λ p. not (parameter_in_tables p)) r.parameters) s.functions in
      let declared = or_left (fields_unknown || functions_unknown) _ known in
      let count = two_read file 0 (length s.fields) (fields_laid wide s.fields functions_on) few_fields refl in
      let fields = fields_back file s.fields 2 functions_on (or_left fields_unknown _ declared)
      (behind_run file 0 (two_bytes (length s.fields)) _ 2 2 refl refl refl) in
      let begin : functions_begin wide file ≡ 2 + 4 * length s.fields = ap (λ (n : ℕ). 2 + 4 * n) count in
      let here : HoldsFrom file (functions_begin wide file) functions_on = rw begin fields.1 in
      let function_count = byte_read file (functions_begin wide file) (length s.functions) (functions_laid wide s.functions nodes_on) here in
      let at = functions_begin wide file + 1 in
      let functions = functions_back file s.functions at nodes_on (or_right fields_unknown _ declared) roots
      (behind_run file (functions_begin wide file) (length s.functions ∷ []) _ at 1 here refl refl) in
      let place : nodes_begin wide file ≡ functions_passed wide (length s.functions) file at =
      ap (λ (n : ℕ). functions_passed wide n file at) function_count in
      let nodes_here : HoldsFrom file (nodes_begin wide file) nodes_on = rw place functions.1 in
      let node_count = two_read file (nodes_begin wide file) (length s.nodes) (nodes_laid wide s.nodes) few_nodes nodes_here in
      let first = nodes_begin wide file + 2 in
      let nodes = nodes_back file s.nodes first (or_right (fields_unknown || functions_unknown) _ known) fit
      (behind_run file (nodes_begin wide file) (two_bytes (length s.nodes)) _ first 2 nodes_here refl refl) in
      λ i. record {
        fields = (ap (λ (n : ℕ). fields_read wide n file 2) count ∙ fields.0) i;
        functions = (ap (λ (n : ℕ). functions_read wide n file at) function_count ∙ functions.0) i;
        nodes = (force_is first (nodes_read wide (nodes_counted wide file) file) ∙ ap (λ (n : ℕ). nodes_read wide n file first) node_count ∙ nodes) i;
      }

-- Two bytes make a number of two bytes.
module _ (file : List ℕ) (bytes : (i : ℕ) → byte_at file i < 256) where
  two_fit : (at : ℕ) → two_bytes_at file at ≤ 65535
  two_fit at = let low = bytes at in let high = bytes (at + 1) in omega arith

  roots_fit : (k at : ℕ) → RootsFit (functions_read narrow k file at)
  unfolding RootsFit functions_read
  roots_fit zero at = tt
  roots_fit (suc k) at =
      let end = function_passed narrow file at in
      (two_fit _, rw (force_is end (functions_read narrow k file)) (roots_fit k end))

  nodes_fit : (k at : ℕ) → NodesFit (nodes_read narrow k file at)
  unfolding NodesFit nodes_read
  nodes_fit zero at = tt
  nodes_fit (suc k) at =
      let arg = bytes (at + 1) in
      (record { arg = omega arith; first = two_fit _; second = two_fit _; third = two_fit _ }, nodes_fit k (at + 8))

  pub widened_reads : outside_tables (sections_read narrow file) ≡ false → sections_read wide (widened file) ≡ sections_read narrow file
  unfolding sections_read
  widened_reads known =
      let count = fields_length (fields_counted narrow file) file 1 in
      let few = bytes 0 in
      let start = nodes_begin narrow file + 2 in
      let nodes = nodes_read narrow (nodes_counted narrow file) file in
      let node_count = ap length (force_is start nodes) ∙ node_records_length (nodes_counted narrow file) file start in
      let few_nodes = two_fit (nodes_begin narrow file) in
      sections_back (sections_read narrow file) known (omega arith) (omega arith)
      (roots_fit (functions_counted narrow file) (functions_begin narrow file + 1))
      (rw (force_is start nodes) (nodes_fit (nodes_counted narrow file) start))
