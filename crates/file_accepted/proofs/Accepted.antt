-- What code may rely on holds of a file of which numbers 2, 3, 4 and 7 say nothing, at each of its functions.
use Rattle.std.specs.Prelude.{◌≡◌, ◌||◌, ◌∷◌, ◌+◌, ◌*◌, ◌<◌, ◌≤◌}
use Rattle.kit.specs.Names.{refl, ap, sym, ◌∙◌, Bool, true, false, not, List, [], map, ℕ, zero, suc}
use Rattle.kit.specs.Names.{arith, leb, ltb, length, get_or, length-map, get_or_map, get_or_eq_default, ltb-true, ltb-false, leb-false, not-false}
use Rattle.definitions.specs.Basics.{all, any, is_zero}
use Rattle.definitions.specs.ContractFile.{FieldRecord, FunctionRecord, NodeRecord, node, byte_at, field_count, function_count, functions_at, function_end, functions_end, nodes_at, node_count, field_records, parameter_records, function_record, function_records, node_record, sections_of, field_of, Node, unknown_node, node_of, node_at, expression_parts, statement_parts, is_expression, is_statement}
use Rattle.definitions.specs.Reading.{functions_passed, functions_read}
use Rattle.definitions.specs.Numbers.{count_off_limits, field_in_tables, parameter_in_tables, node_in_tables, outside_tables, field_of_declared_owner, names_nothing, wrong_sort}
use Rattle.theory_laws.proofs.Lists.{get_or_inside}
use Rattle.theory_laws.proofs.Records.{field_record, fields_length, force_is, functions_length, parameters_length}
use Rattle.theory_laws.proofs.TruthValues.{or_left, or_right}
use Rattle.theory_trees.specs.Trees.{Falling}
use Rattle.theory_trees.proofs.Falls.{nodes_fall}
use Rattle.file_bytes.proofs.Sections.{fields_are, functions_are, count_of_nodes, node_of_law}
use Rattle.file_accepted.specs.Context.{nodes_in, field_record_at, Known}

none_at : {A : Type 0} (test : A → Bool) (xs : List A) → any test xs ≡ false → (i : ℕ) (d : A) → i < length xs → test (get_or xs i d) ≡ false
unfolding any
none_at test [] h i d l = absurd (omega arith)
none_at test (x ∷ xs) h zero d l = or_left (test x) (any test xs) h
none_at test (x ∷ xs) h (suc i) d l = none_at test xs (or_right (test x) (any test xs) h) i d (omega arith)

-- Inside a list, an element's image; outside, what stands for none.
pub mapped_at : {A B : Type 0} (f : A → B) (xs : List A) (i : ℕ) (none : B) (other : A) → i < length xs → get_or (map f xs) i none ≡ f (get_or xs i other)
mapped_at f xs i none other h = get_or_inside (map f xs) i none (f other) (omega (arith, length-map xs f)) ∙ get_or_map f xs i other

-- None that fails a test: all pass it.
none_fails : (test : ℕ → Bool) (xs : List ℕ) → any (λ x. not (test x)) xs ≡ false → all test xs ≡ true
unfolding any all
none_fails test [] h = refl
none_fails test (x ∷ xs) h = rw (not-false (test x) (or_left (not (test x)) _ h), none_fails test xs (or_right (not (test x)) _ h))

pub function_record_law : (k : ℕ) (file : List ℕ) (at f : ℕ) (other : FunctionRecord) → f < k → get_or (function_records k file at) f other ≡ function_record file (functions_end f file at)
unfolding functions_read functions_passed
function_record_law zero file at f other h = absurd (omega arith)
function_record_law (suc k) file at zero other h = refl
function_record_law (suc k) file at (suc f) other h =
    rw (force_is (function_end file at) (function_records k file), force_is (function_end file at) (functions_end f file))
    (function_record_law k file (function_end file at) f other (omega arith))

abbrev many_parameters : FunctionRecord → Bool
many_parameters r = ltb 8 (length r.parameters)

few_bytes : (file : List ℕ) (at : ℕ) → many_parameters (function_record file at) ≡ false → byte_at file at ≤ 8
few_bytes file at h = omega (arith, ltb-false 8 (length (parameter_records (byte_at file at) file (at + 1))) h, parameters_length (byte_at file at) file (at + 1))

-- A function takes at most 19 bytes.
functions_near : (k : ℕ) (file : List ℕ) (at f : ℕ) → any many_parameters (function_records k file at) ≡ false → f ≤ k → functions_end f file at ≤ at + 19 * f
unfolding functions_read functions_passed any
functions_near k file at zero h l = omega arith
functions_near zero file at (suc f) h l = absurd (omega arith)
functions_near (suc k) file at (suc f) h l =
    let here = few_bytes file at (or_left (many_parameters (function_record file at)) _ h) in
    let later = or_right (many_parameters (function_record file at)) _ h in
    let near = functions_near k file (function_end file at) f (rw (force_is (function_end file at) (function_records k file)) at later) (omega arith) in
    rw (force_is (function_end file at) (functions_end f file)) (omega arith)

-- What a disjunction that fails tells.
three_false : (a b c : Bool) → a || b || c ≡ false → (a ≡ false) × (b ≡ false) × (c ≡ false)
three_false a b c h = let ab = or_left (a || b) c h in (or_left a b ab, or_right a b ab, or_right (a || b) c h)

five_false : (a b c d e : Bool) → a || b || c || d || e ≡ false → (a ≡ false) × (c ≡ false) × (d ≡ false) × (e ≡ false)
five_false a b c d e h =
    let (abc, d_false, e_false) = three_false (a || b || c) d e h in let (a_false, _, c_false) = three_false a b c abc in (a_false, c_false, d_false, e_false)

-- Numbers 2, 3, 4 and 7, as far as code relies on them.
module _ (file : List ℕ) (counts : count_off_limits file ≡ false) where
  abbrev parameters_off : Bool
  parameters_off = any many_parameters (sections_of file).functions

  none_off : (ltb 64 (field_count file) ≡ false) × (ltb 16 (function_count file) ≡ false) × (parameters_off ≡ false) × (ltb 512 (node_count file) ≡ false)
  unfolding count_off_limits
  none_off = five_false (ltb 64 (field_count file)) (is_zero (function_count file)) (ltb 16 (function_count file)) parameters_off (ltb 512 (node_count file)) counts

  pub few_nodes_law : node_count file ≤ 512
  few_nodes_law = ltb-false 512 (node_count file) none_off.3

  pub few_functions_law : function_count file ≤ 16
  few_functions_law = ltb-false 16 (function_count file) none_off.1

  pub few_fields_law : field_count file ≤ 64
  few_fields_law = ltb-false 64 (field_count file) none_off.0

  no_parameters_off : any many_parameters (function_records (function_count file) file (functions_at file + 1)) ≡ false
  no_parameters_off = ap (any many_parameters) (sym (functions_are file)) ∙ none_off.2

  near : (f : ℕ) → f ≤ function_count file → functions_end f file (functions_at file + 1) ≤ 200000
  near f h = omega (arith, functions_near (function_count file) file (functions_at file + 1) f no_parameters_off h, few_fields_law, few_functions_law)

  few_parameters_law : (f : ℕ) → f < function_count file → byte_at file (functions_end f file (functions_at file + 1)) ≤ 8
  few_parameters_law f h =
      let other : FunctionRecord = record { parameters = []; root = 0 } in
      let inside = functions_length (function_count file) file (functions_at file + 1) in
      few_bytes file (functions_end f file (functions_at file + 1))
      (ap many_parameters (sym (function_record_law (function_count file) file (functions_at file + 1) f other h))
      ∙ none_at many_parameters (function_records (function_count file) file (functions_at file + 1)) no_parameters_off f other (omega arith))

module _ (file : List ℕ) (tables : outside_tables (sections_of file) ≡ false) where
  none_outside : (any (λ r. not (field_in_tables r)) (sections_of file).fields ≡ false)
      × (any (λ r. any (λ p. not (parameter_in_tables p)) r.parameters) (sections_of file).functions ≡ false)
      × (any (λ r. not (node_in_tables r)) (sections_of file).nodes ≡ false)
  unfolding outside_tables
  none_outside = three_false (any (λ r. not (field_in_tables r)) (sections_of file).fields)
      (any (λ r. any (λ p. not (parameter_in_tables p)) r.parameters) (sections_of file).functions) _ tables

  nodes_listed : (n : ℕ) → n < node_count file → node_in_tables (node_record file (nodes_at file + 2 + 8 * n)) ≡ true
  nodes_listed n h =
      ap (λ (r : NodeRecord). node_in_tables r) (sym (node_of_law file n (node 0 0 0 0 0) h))
      ∙ not-false _ (none_at (λ r. not (node_in_tables r)) (sections_of file).nodes none_outside.2 n (node 0 0 0 0 0) (omega (arith, count_of_nodes file)))

  pub fields_listed : (f : ℕ) → f < field_count file → field_in_tables (field_record_at file f) ≡ true
  fields_listed f h =
      let other : FieldRecord = record { shape = 0; type = 0; owner = 0 } in
      let outside = ap (any (λ r. not (field_in_tables r))) (sym (fields_are file)) ∙ none_outside.0 in
      ap field_in_tables (sym (field_record (field_count file) file 1 f other h))
      ∙ not-false _ (none_at (λ r. not (field_in_tables r)) (field_records (field_count file) file 1) outside f other (omega (arith, fields_length (field_count file) file 1)))

module _ (file : List ℕ) (names : names_nothing (sections_of file) ≡ false) where
  abbrev owners_off : Bool
  owners_off = any (λ r. any (leb (length (sections_of file).fields)) (field_of_declared_owner (field_of r).owner)) (sections_of file).fields

  abbrev roots_off : Bool
  roots_off = any (λ r. leb (length (sections_of file).nodes) r.root) (sections_of file).functions

  falling : Falling (nodes_in file)
  unfolding nodes_in
  falling = nodes_fall (sections_of file) names

  pub root_inside : (f : ℕ) (other : FunctionRecord) → f < length (sections_of file).functions
      → (get_or (sections_of file).functions f other).root < length (sections_of file).nodes
  unfolding names_nothing
  root_inside f other h =
      leb-false (length (sections_of file).nodes) _
      (none_at (λ r. leb (length (sections_of file).nodes) r.root) (sections_of file).functions (three_false owners_off roots_off _ names).1 f other h)

module _ (file : List ℕ) (sorts : wrong_sort (sections_of file) ≡ false) where
  abbrev not_expression : ℕ → Bool
  not_expression n = not (is_expression (node_at (nodes_in file) n))

  abbrev not_statement : ℕ → Bool
  not_statement n = not (is_statement (node_at (nodes_in file) n))

  abbrev parts_off : Node → Bool
  parts_off node = any not_expression (expression_parts node) || any not_statement (statement_parts node)

  no_parts_off : any parts_off (nodes_in file) ≡ false
  unfolding wrong_sort nodes_in
  no_parts_off = or_right (any (λ r. not (is_statement (node_at (map node_of (sections_of file).nodes) r.root))) (sections_of file).functions) _ sorts

  parts_fit : (n : ℕ) (inside : Bool) → ltb n (length (nodes_in file)) ≡ inside → parts_off (node_at (nodes_in file) n) ≡ false
  unfolding expression_parts statement_parts any
  parts_fit n true e = none_at parts_off (nodes_in file) no_parts_off n unknown_node (ltb-true n (length (nodes_in file)) e)
  parts_fit n false e = rw (get_or_eq_default (nodes_in file) unknown_node (ltb-false n (length (nodes_in file)) e))

  parts_due : (n : ℕ) → (all (λ child. is_expression (node_at (nodes_in file) child)) (expression_parts (node_at (nodes_in file) n)) ≡ true)
      × (all (λ child. is_statement (node_at (nodes_in file) child)) (statement_parts (node_at (nodes_in file) n)) ≡ true)
  parts_due n =
      let fit = parts_fit n (ltb n (length (nodes_in file))) refl in
      let expressions = any not_expression (expression_parts (node_at (nodes_in file) n)) in (
        none_fails (λ child. is_expression (node_at (nodes_in file) child)) _ (or_left expressions _ fit),
        none_fails (λ child. is_statement (node_at (nodes_in file) child)) _ (or_right expressions _ fit),
      )

-- The context of function f, which begins where the functions before it end.
pub known_of : (file : List ℕ) (f : ℕ) → count_off_limits file ≡ false → outside_tables (sections_of file) ≡ false → names_nothing (sections_of file) ≡ false
    → wrong_sort (sections_of file) ≡ false → f < function_count file → Known file (functions_end f file (functions_at file + 1))
known_of file f counts tables names sorts h =
    record {
      near_function = near file counts f (omega arith);
      few_fields = few_fields_law file counts;
      few_parameters = few_parameters_law file counts f h;
      few_nodes = few_nodes_law file counts;
      field_listed = fields_listed file tables;
      node_listed = nodes_listed file tables;
      falling = falling file names;
      expressions_due = λ n. (parts_due file sorts n).0;
      statements_due = λ n. (parts_due file sorts n).1;
    }
