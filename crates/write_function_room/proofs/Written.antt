-- The functions of a file as they are written, one after another: their headings, their nodes, and the whole file by its parts.
use Rattle.std.specs.Prelude.{◌≡◌, ◌∷◌, ◌++◌, ◌+◌, ◌*◌, ◌<◌}
use Rattle.kit.specs.Names.{refl, ap, sym, ◌∙◌, List, [], map, append-nil, append_assoc, ℕ, zero, suc, arith}
use Rattle.kit.specs.Names.{length, take, get_or, length-append, length-map, get_or_map, take_all, take-suc}
use Rattle.definitions.specs.Basics.{flat_map, two_bytes}
use Rattle.definitions.specs.ContractFile.{Field, Function, function_at, NodeRecord, field_count, function_count, functions_at, function_end, functions_end, sections_of, field_of, contract_of}
use Rattle.definitions.specs.Reading.{functions_passed}
use Rattle.definitions.specs.Rewriting.{WrittenFunction, rewrite_function, rewrite, Tree, size, numbered, function_trees, sizes, numbered_all, node_bytes, field_bytes, function_bytes, functions_bytes, contract_bytes, written_file, contract_written, functions_written}
use Rattle.theory_laws.proofs.Lists.{flat_append, four_lengths}
use Rattle.theory_laws.proofs.Records.{fields_length, force_is}
use Rattle.theory_laws.proofs.Written.{all_length, nodes_length, sizes_append}
use Rattle.file_bytes.proofs.Sections.{fields_are}
use Rattle.file_accepted.specs.Context.{fields_in}
use Rattle.file_accepted.specs.Functions.{function_start}
use Rattle.file_accepted.proofs.Functions.{fields_in_law, functions_count, function_in_law}
use Rattle.write_function_room.specs.Functions.{written_in, written_functions, headings_before, nodes_before}

flat_one : {A B : Type 0} (f : A → List B) (x : A) → flat_map f (x ∷ []) ≡ f x
unfolding flat_map
flat_one f x = append-nil (f x)

pub numbered_append : (n : ℕ) (a b : List Tree) → numbered_all n (a ++ b) ≡ numbered_all n a ++ numbered_all (n + sizes a) b
unfolding numbered_all sizes
numbered_append n [] b = let e : n + 0 ≡ n = omega arith in rw e
numbered_append n (t ∷ a) b =
    let e : n + (size t + sizes a) ≡ n + size t + sizes a = omega arith in
    rw e (ap (λ (l : List NodeRecord). numbered n t ++ l) (numbered_append (n + size t) a b) ∙ sym (append_assoc (numbered n t) _ _))

pub functions_append : (n : ℕ) (a b : List WrittenFunction)
    → functions_bytes n (a ++ b) ≡ functions_bytes n a ++ functions_bytes (n + sizes (flat_map function_trees a)) b
unfolding functions_written flat_map sizes
functions_append n [] b = let e : n + 0 ≡ n = omega arith in rw e
functions_append n (w ∷ a) b =
    let s = sizes_append (function_trees w) (flat_map function_trees a) in
    let e : n + sizes (function_trees w ++ flat_map function_trees a) ≡ n + sizes (function_trees w) + sizes (flat_map function_trees a) = omega arith in
    rw e (ap (λ (l : List ℕ). function_bytes n w ++ l) (functions_append (n + sizes (function_trees w)) a b) ∙ sym (append_assoc (function_bytes n w) _ _))

-- The same from number 0 on.
pub numbered_both : (a b : List Tree) → numbered_all 0 (a ++ b) ≡ numbered_all 0 a ++ numbered_all (sizes a) b
numbered_both a b = let e : 0 + sizes a ≡ sizes a = omega arith in rw e at (numbered_append 0 a b)

pub functions_both : (a b : List WrittenFunction) → functions_bytes 0 (a ++ b) ≡ functions_bytes 0 a ++ functions_bytes (sizes (flat_map function_trees a)) b
functions_both a b = let e : 0 + sizes (flat_map function_trees a) ≡ sizes (flat_map function_trees a) = omega arith in rw e at (functions_append 0 a b)

functions_one : (n : ℕ) (w : WrittenFunction) → functions_bytes n (w ∷ []) ≡ function_bytes n w
unfolding functions_written
functions_one n w = append-nil (function_bytes n w)

field_bytes_length : (ds : List Field) → length (flat_map field_bytes ds) ≡ 3 * length ds
unfolding flat_map
field_bytes_length [] = refl
field_bytes_length (d ∷ ds) = let h = field_bytes_length ds in omega (arith, length-append (field_bytes d) (flat_map field_bytes ds))

end_step : (file : List ℕ) (f at : ℕ) → functions_end (suc f) file at ≡ function_end file (functions_end f file at)
unfolding functions_passed
end_step file zero at = force_is (function_end file at) (functions_end 0 file)
end_step file (suc f) at =
    force_is (function_end file at) (functions_end (suc f) file) ∙ end_step file f (function_end file at)
    ∙ ap (function_end file) (sym (force_is (function_end file at) (functions_end f file)))

layout : (fields : List Field) (ws : List WrittenFunction) (m n : ℕ) → length fields ≡ m → length ws ≡ n
    → contract_bytes (record { fields = fields; functions = ws })
    ≡ (m ∷ flat_map field_bytes fields) ++ (n ∷ functions_bytes 0 ws) ++ two_bytes (sizes (flat_map function_trees ws)) ++ flat_map node_bytes (numbered_all 0 (flat_map function_trees ws))
unfolding contract_written
layout fields ws m n h k = rw (h, k)

module _ (file : List ℕ) where
  written_are : written_functions file ≡ map (rewrite_function (fields_in file)) (contract_of (sections_of file)).functions
  unfolding rewrite
  written_are = ap (λ (fs : List Field). map (rewrite_function fs) (contract_of (sections_of file)).functions) (fields_in_law file)

  pub functions_counted_law : length (written_functions file) ≡ function_count file
  functions_counted_law =
      ap length written_are ∙ length-map (contract_of (sections_of file)).functions (rewrite_function (fields_in file)) ∙ functions_count file

  pub fields_counted_law : length (fields_in file) ≡ field_count file
  unfolding fields_in
  fields_counted_law = length-map (sections_of file).fields field_of ∙ ap length (fields_are file) ∙ fields_length (field_count file) file 1

  abbrev no_function : Function
  no_function = function_at [] 0

  written_of : (f : ℕ) → f < function_count file → get_or (written_functions file) f (rewrite_function (fields_in file) no_function) ≡ written_in file (function_start file f)
  written_of f h =
      ap (λ (l : List WrittenFunction). get_or l f (rewrite_function (fields_in file) no_function)) written_are
      ∙ get_or_map (rewrite_function (fields_in file)) (contract_of (sections_of file)).functions f no_function
      ∙ ap (rewrite_function (fields_in file)) (function_in_law file f h)

  pub take_next : (f : ℕ) → f < function_count file → take (suc f) (written_functions file) ≡ take f (written_functions file) ++ (written_in file (function_start file f) ∷ [])
  take_next f h =
      let counted = functions_counted_law in
      take-suc (written_functions file) f (rewrite_function (fields_in file) no_function) (omega arith)
      ∙ ap (λ (w : WrittenFunction). take f (written_functions file) ++ (w ∷ [])) (written_of f h)

  abbrev pub trees_before : ℕ → List Tree
  trees_before f = flat_map function_trees (take f (written_functions file))

  -- One function on.
  pub trees_step : (f : ℕ) → f < function_count file → trees_before (suc f) ≡ trees_before f ++ function_trees (written_in file (function_start file f))
  trees_step f h =
      ap (flat_map function_trees) (take_next f h) ∙ flat_append function_trees (take f (written_functions file)) _
      ∙ ap (λ (l : List Tree). trees_before f ++ l) (flat_one function_trees (written_in file (function_start file f)))

  pub headings_step : (f : ℕ) → f < function_count file
      → functions_bytes 0 (take (suc f) (written_functions file)) ≡ functions_bytes 0 (take f (written_functions file)) ++ function_bytes (nodes_before file f) (written_in file (function_start file f))
  headings_step f h =
      ap (functions_bytes 0) (take_next f h) ∙ functions_both (take f (written_functions file)) _
      ∙ ap (λ (l : List ℕ). functions_bytes 0 (take f (written_functions file)) ++ l) (functions_one (nodes_before file f) (written_in file (function_start file f)))

  pub nodes_step : (f : ℕ) → f < function_count file
      → numbered_all 0 (trees_before (suc f)) ≡ numbered_all 0 (trees_before f) ++ numbered_all (nodes_before file f) (function_trees (written_in file (function_start file f)))
  nodes_step f h = ap (numbered_all 0) (trees_step f h) ∙ numbered_both (trees_before f) (function_trees (written_in file (function_start file f)))

  pub node_bytes_step : (f : ℕ) → f < function_count file
      → flat_map node_bytes (numbered_all 0 (trees_before (suc f)))
      ≡ flat_map node_bytes (numbered_all 0 (trees_before f)) ++ flat_map node_bytes (numbered_all (nodes_before file f) (function_trees (written_in file (function_start file f))))
  node_bytes_step f h = ap (flat_map node_bytes) (nodes_step f h) ∙ flat_append node_bytes (numbered_all 0 (trees_before f)) _

  pub before_step : (f : ℕ) → f < function_count file → nodes_before file (suc f) ≡ nodes_before file f + sizes (function_trees (written_in file (function_start file f)))
  before_step f h = ap sizes (trees_step f h) ∙ sizes_append (trees_before f) (function_trees (written_in file (function_start file f)))

  pub headings_before_step : (f : ℕ) → f < function_count file
      → headings_before file (suc f) ≡ headings_before file f + length (function_bytes (nodes_before file f) (written_in file (function_start file f)))
  headings_before_step f h =
      let step = ap length (headings_step f h) in
      let parts = length-append (functions_bytes 0 (take f (written_functions file))) (function_bytes (nodes_before file f) (written_in file (function_start file f))) in
      omega arith

  pub start_step : (f : ℕ) → function_start file (suc f) ≡ function_end file (function_start file f)
  start_step f = end_step file f (functions_at file + 1)

  pub before_first : nodes_before file 0 ≡ 0
  unfolding flat_map sizes
  before_first = refl

  pub headings_first : headings_before file 0 ≡ 1 + 3 * field_count file + 1
  unfolding functions_written
  headings_first = omega arith

  pub nodes_before_length : (f : ℕ) → length (flat_map node_bytes (numbered_all 0 (trees_before f))) ≡ 8 * nodes_before file f
  nodes_before_length f = omega (arith, nodes_length (numbered_all 0 (trees_before f)), all_length 0 (trees_before f))

  pub file_whole : written_file file
      ≡ (field_count file ∷ flat_map field_bytes (fields_in file)) ++ (function_count file ∷ functions_bytes 0 (written_functions file))
      ++ two_bytes (sizes (flat_map function_trees (written_functions file))) ++ flat_map node_bytes (numbered_all 0 (flat_map function_trees (written_functions file)))
  unfolding written_file rewrite
  file_whole =
      ap (λ (fs : List Field). contract_bytes (record { fields = fs; functions = written_functions file })) (fields_in_law file)
      ∙ layout (fields_in file) (written_functions file) (field_count file) (function_count file) fields_counted_law functions_counted_law

  all_taken : take (function_count file) (written_functions file) ≡ written_functions file
  all_taken = take_all (function_count file) (written_functions file) (omega (arith, functions_counted_law))

  pub file_parts : written_file file
      ≡ (field_count file ∷ flat_map field_bytes (fields_in file)) ++ (function_count file ∷ functions_bytes 0 (take (function_count file) (written_functions file)))
      ++ two_bytes (nodes_before file (function_count file)) ++ flat_map node_bytes (numbered_all 0 (trees_before (function_count file)))
  file_parts = rw all_taken file_whole

  pub written_length_law : length (written_file file) ≡ headings_before file (function_count file) + 2 + 8 * nodes_before file (function_count file)
  written_length_law =
      let n = function_count file in
      let first = field_count file ∷ flat_map field_bytes (fields_in file) in
      let second = n ∷ functions_bytes 0 (take n (written_functions file)) in
      let third = two_bytes (nodes_before file n) in
      let fourth = flat_map node_bytes (numbered_all 0 (trees_before n)) in
      let whole = ap length file_parts in
      let parts = four_lengths first second third fourth in
      let fields = field_bytes_length (fields_in file) in
      let counted = fields_counted_law in
      let nodes = nodes_before_length n in
      omega arith
