-- The numbers that the decoder stores are the file's sections.
use Rattle.std.specs.Prelude.{◌≡◌, ◌∷◌, ◌++◌, ◌+◌, ◌*◌, ◌/◌, ◌<◌, ◌≤◌}
use Rattle.kit.specs.Names.{refl, ap, ap₂, sym, ◌∙◌, List, ℕ, zero, suc, arith, add-zero, zero-add, add_assoc}
use Rattle.kit.specs.Names.{length, drop, length-drop, length-take-le, drop-drop, drop_at, get_or-drop, get_or-take, get_or_append, append_assoc}
use Rattle.definitions.specs.ContractFile.{FieldRecord, ParameterRecord, FunctionRecord, NodeRecord, byte_at, field_count, function_count, node_count, function_end, functions_end, field_records, parameter_records, function_records, node, node_record, node_records, sections_of}
use Rattle.definitions.specs.Reading.{functions_passed, nodes_begin, fields_read, parameters_read, functions_read, nodes_read}
use Rattle.theory_laws.proofs.Records.{force_is}
use Rattle.memory_buffer.specs.Buffer.{stored}
use Rattle.file_bytes.specs.declared.Layout.{Layout}
use Rattle.file_bytes.proofs.Sections.{fields_are, functions_are, nodes_are}
use Rattle.file_decoded.specs.Slices.{number_at, fields_from, parameters_from, functions_from, nodes_from, record_at, Narrow}
use Rattle.file_decoded.proofs.Records.{nodes_read_law}
use Rattle.file_node_decoder.specs.Numbers.{bytes_at}
use Rattle.file_decoder.specs.Decoding.{nodes_numbers, functions_numbers, parameters_numbers, FunctionsRoom, Decodable, Decoded}
use Rattle.file_decoder.proofs.Loops.{ends_grow}

-- The numbers of a slice from a place on.
module _ (numbers : List ℕ) (at : ℕ) (rest : List ℕ) (h : drop at numbers ≡ rest) where
  read : (i : ℕ) → number_at numbers (at + i) ≡ number_at rest i
  read i = sym (get_or-drop at numbers i 0) ∙ ap (λ (l : List ℕ). number_at l i) h

  read_first : number_at numbers at ≡ number_at rest 0
  read_first = rw add-zero at (read 0)

  behind : (n : ℕ) → drop (at + n) numbers ≡ drop n rest
  behind n = sym (drop-drop n at numbers) ∙ ap (drop n) h

nodes_decoded : (count : ℕ) (file : List ℕ) (from : ℕ) (numbers : List ℕ) (at : ℕ) (rest : List ℕ) → drop at numbers ≡ nodes_numbers count file from ++ rest
    → nodes_from count numbers at ≡ node_records count file from
unfolding nodes_numbers nodes_from nodes_read
nodes_decoded zero file from numbers at rest h = refl
nodes_decoded (suc count) file from numbers at rest h =
    let number = read numbers at _ h in
    ap₂ (λ (r : NodeRecord) (rs : List NodeRecord). r ∷ rs) (λ i. node (read_first numbers at _ h i) (number 1 i) (number 2 i) (number 3 i) (number 4 i))
    (nodes_decoded count file (from + 8) numbers (at + 5) rest (behind numbers at _ h 5))

-- Bytes that are copied, one by one.
module _ (file : List ℕ) (from n : ℕ) (numbers : List ℕ) (at : ℕ) (rest : List ℕ) (there : from + n ≤ length file) (h : drop at numbers ≡ bytes_at file from n ++ rest) where
  long : length (bytes_at file from n) ≡ n
  long = length-take-le n (drop from file) (omega (arith, length-drop from file))

  copied : (i : ℕ) → i < n → number_at numbers (at + i) ≡ byte_at file (from + i)
  copied i inside =
      read numbers at _ h i ∙ get_or_append (bytes_at file from n) rest 0 i (omega (arith, long)) ∙ get_or-take n (drop from file) i 0 inside ∙ get_or-drop from file i 0

fields_decoded : (count : ℕ) (file : List ℕ) (from : ℕ) (numbers : List ℕ) (at : ℕ)
    → ((i : ℕ) → i < 3 * count → number_at numbers (at + i) ≡ byte_at file (from + i)) → fields_from count numbers at ≡ field_records count file from
unfolding fields_from fields_read
fields_decoded zero file from numbers at each = refl
fields_decoded (suc count) file from numbers at each =
    let shape = simp add-zero at (each 0 (omega arith)) in
    let type = each 1 (omega arith) in
    let owner = each 2 (omega arith) in
    ap₂ (λ (r : FieldRecord) (rs : List FieldRecord). r ∷ rs) (λ i. record { shape = shape i; type = type i; owner = owner i })
    (fields_decoded count file (from + 3) numbers (at + 3) (λ i h. simp add_assoc (each (3 + i) (omega arith))))

parameters_decoded : (count : ℕ) (file : List ℕ) (from : ℕ) (numbers : List ℕ) (at : ℕ)
    → ((i : ℕ) → i < 2 * count → number_at numbers (at + i) ≡ byte_at file (from + i)) → parameters_from count numbers at ≡ parameter_records count file from
unfolding parameters_from parameters_read
parameters_decoded zero file from numbers at each = refl
parameters_decoded (suc count) file from numbers at each =
    let type = simp add-zero at (each 0 (omega arith)) in
    let owner = each 1 (omega arith) in
    ap₂ (λ (r : ParameterRecord) (rs : List ParameterRecord). r ∷ rs) (λ i. record { type = type i; owner = owner i })
    (parameters_decoded count file (from + 2) numbers (at + 2) (λ i h. simp add_assoc (each (2 + i) (omega arith))))

-- Functions with their parameters, which lie in their slice.
functions_decoded : (count : ℕ) (file : List ℕ) (place : ℕ) (parameters functions : List ℕ) (first at : ℕ) (rest rest' : List ℕ)
    → functions_end count file place ≤ length file → drop first parameters ≡ parameters_numbers count file place ++ rest
    → drop at functions ≡ functions_numbers count file place first ++ rest' → functions_from parameters count functions at ≡ function_records count file place
unfolding functions_from functions_read functions_passed parameters_numbers functions_numbers
functions_decoded zero file place parameters functions first at rest rest' there hp hf = refl
functions_decoded (suc count) file place parameters functions first at rest rest' there hp hf =
    let later = rw (force_is (function_end file place) (functions_end count file)) at there in
    let grown = ends_grow count file (function_end file place) in
    let own = byte_at file place in
    let whole = hp ∙ append_assoc (bytes_at file (place + 1) (2 * own)) (parameters_numbers count file (function_end file place)) rest in
    let fits : place + 1 + 2 * own ≤ length file = omega arith in
    let length_is = long file (place + 1) (2 * own) parameters first _ fits whole in
    let start_is = read_first functions at _ hf in
    let count_is = read functions at _ hf 1 in
    let root_is = read functions at _ hf 2 in
    let listed = (λ i. parameters_from (count_is i) parameters (start_is i))
    ∙ parameters_decoded own file (place + 1) parameters first (copied file (place + 1) (2 * own) parameters first _ fits whole) in
    ap₂ (λ (r : FunctionRecord) (rs : List FunctionRecord). r ∷ rs) (λ i. record { parameters = listed i; root = root_is i })
    (functions_decoded count file (function_end file place) parameters functions (first + 2 * own) (at + 3) rest rest' later
    (behind parameters first _ whole (2 * own) ∙ drop_at (bytes_at file (place + 1) (2 * own)) _ (2 * own) length_is) (behind functions at _ hf 3)
    ∙ sym (force_is (function_end file place) (function_records count file)))

parameters_inside : (count : ℕ) (file : List ℕ) (place : ℕ) (functions : List ℕ) (first at limit : ℕ) (rest : List ℕ)
    → drop at functions ≡ functions_numbers count file place first ++ rest → first + functions_end count file place ≤ limit + place + 3 * count
    → (f : ℕ) → f < count → number_at functions (at + 3 * f) + 2 * number_at functions (at + 3 * f + 1) ≤ limit
unfolding functions_passed functions_numbers
parameters_inside zero file place functions first at limit rest hf end f h = absurd (omega arith)
parameters_inside (suc count) file place functions first at limit rest hf end zero h =
    let grown = ends_grow count file (function_end file place) in
    rw (add-zero at) (omega (arith, force_is (function_end file place) (functions_end count file), read_first functions at _ hf, read functions at _ hf 1))
parameters_inside (suc count) file place functions first at limit rest hf end (suc f) h =
    let e : at + 3 * suc f ≡ at + 3 + 3 * f = omega arith in
    rw e (parameters_inside count file (function_end file place) functions (first + 2 * byte_at file place) (at + 3) limit rest (behind functions at _ hf 3)
    (omega (arith, force_is (function_end file place) (functions_end count file))) f (omega arith))

module _ (file : List ℕ) (from : ℕ) (held nodes : List ℕ) (bytes : (i : ℕ) → byte_at file i ≤ 255)
    (put : nodes ≡ stored held 0 (nodes_numbers (length held / 5) file from)) (long_nodes_law : length nodes ≡ length held) where
  pub nodes_same : nodes_from (length nodes / 5) nodes 0 ≡ node_records (length held / 5) file from
  unfolding stored
  nodes_same = ap (λ (n : ℕ). nodes_from (n / 5) nodes 0) long_nodes_law ∙ nodes_decoded (length held / 5) file from nodes 0 _ put

  pub nodes_narrow : Narrow nodes
  nodes_narrow =
      let record_is : (n : ℕ) → 5 * n + 5 ≤ length nodes → record_at nodes n ≡ node_record file (from + 8 * n) =
      λ n h. nodes_read_law file nodes from (length held / 5) nodes_same (ap (λ (l : ℕ). l / 5) long_nodes_law) n (omega arith) in
      record {
        kind = λ n h. omega (arith, ap (λ (r : NodeRecord). r.kind) (record_is n h), bytes (from + 8 * n));
        arg = λ n h. omega (arith, ap (λ (r : NodeRecord). r.arg) (record_is n h), bytes (from + 8 * n + 1));
      }

module _ (file : List ℕ) (l : Layout) (fields functions parameters nodes : List ℕ) (d : Decodable file l fields functions parameters nodes) where
  count_is : length functions / 3 ≡ function_count file
  count_is = omega (arith, d.for_functions, d.layout.functions)

  end_is : functions_end (length functions / 3) file (l.functions_at + 1) ≡ l.nodes_at
  unfolding nodes_begin
  end_is = (λ i. functions_end (count_is i) file (d.layout.functions_start i + 1)) ∙ sym d.layout.nodes_start

  pub functions_room : FunctionsRoom file (l.functions_at + 1) functions parameters
  functions_room = record {
    there = omega (arith, end_is, d.layout.nodes_start, d.ends);
    exact = omega (arith, end_is, d.for_parameters, d.for_functions);
    small = d.small;
  }

  -- The sections stand one behind another, and the slices hold them.
  pub decoded : (fields' functions' parameters' nodes' : List ℕ) → length fields' ≡ length fields → length functions' ≡ length functions
      → length parameters' ≡ length parameters → fields' ≡ stored fields 0 (bytes_at file 1 (length fields))
      → (functions' ≡ stored functions 0 (functions_numbers (length functions / 3) file (l.functions_at + 1) 0))
      × (parameters' ≡ stored parameters 0 (parameters_numbers (length functions / 3) file (l.functions_at + 1)))
      → nodes_from (length nodes' / 5) nodes' 0 ≡ node_records (length nodes / 5) file (l.nodes_at + 2) → Narrow nodes'
      → Decoded file fields' functions' parameters' nodes'
  unfolding stored nodes_begin
  decoded fields' functions' parameters' nodes' long_fields long_functions_law long_parameters_law fs (gs, ps) ns narrow =
      let many : length fields' / 3 ≡ field_count file = omega (arith, d.for_fields, d.layout.fields) in
      let there : 1 + length fields ≤ length file =
      omega (arith, d.layout.fields, d.layout.functions_start, d.layout.nodes_start, d.for_fields, d.for_parameters, d.ends) in
      let fields_same : fields_from (length fields' / 3) fields' 0 ≡ (sections_of file).fields =
      ap (λ (n : ℕ). fields_from n fields' 0) many
      ∙ fields_decoded (field_count file) file 1 fields' 0 (λ i h. copied file 1 (length fields) fields' 0 _ there fs i (omega (arith, d.for_fields, d.layout.fields)))
      ∙ sym (fields_are file) in
      let functions_many : length functions' / 3 ≡ length functions / 3 = ap (λ (n : ℕ). n / 3) long_functions_law in
      let functions_same = ap (λ (n : ℕ). functions_from parameters' n functions' 0) functions_many
      ∙ functions_decoded (length functions / 3) file (l.functions_at + 1) parameters' functions' 0 0 _ _ functions_room.there ps gs
      ∙ (λ i. function_records (count_is i) file (d.layout.functions_start i + 1)) ∙ sym (functions_are file) in
      let nodes_many : length nodes / 5 ≡ node_count file = omega (arith, d.for_nodes, d.layout.nodes) in
      let nodes_here_law = ns ∙ (λ i. node_records (nodes_many i) file (d.layout.nodes_start i + 2)) ∙ sym (nodes_are file) in
      let within = parameters_inside (length functions / 3) file (l.functions_at + 1) functions' 0 0 (length parameters) _ gs (omega (arith, functions_room.exact)) in
      record {
        are = λ i. record { fields = fields_same i; functions = functions_same i; nodes = nodes_here_law i };
        inside = record { each = λ f h. rw long_parameters_law (rw (zero-add (3 * f)) at (within f (omega arith))) };
        narrow = narrow;
      }
