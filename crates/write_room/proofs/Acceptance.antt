-- What an accepted file's counts, roots and children are: numbers 2, 4 and 5 hold nowhere.
use Rattle.std.specs.Prelude.{◌≡◌, ◌||◌, ◌∷◌, ◌++◌, ◌+◌, ◌*◌, ◌≤◌, ◌<◌}
use Rattle.kit.specs.Names.{refl, ap, ◌∙◌, Bool, false, not, List, [], map, ℕ, zero, suc, arith}
use Rattle.kit.specs.Names.{eqb, leb, ltb, length, length-map, ltb-false, leb-false, not-false, eqb-true}
use Rattle.definitions.specs.Basics.{any, any_numbered, count_if, flat_map, is_zero}
use Rattle.definitions.specs.ContractFile.{FunctionRecord, NodeRecord, Sections, byte_at, field_count, functions_at, function_count, function_end, functions_end, node_count, nodes_at, file_end, parameter_records, function_records, node_records, sections_of, field_of, parameter_of, Node, node_of, children, fields_named, function_of, contract_of}
use Rattle.definitions.specs.Reading.{functions_passed, nodes_begin, functions_read, sections_read}
use Rattle.definitions.specs.Numbers.{ends_wrongly, count_off_limits, names_nothing, field_of_declared_owner, uses_of, used_other_than_once, check_number}
use Rattle.theory_laws.proofs.Lists.{count_append, none_numbered}
use Rattle.theory_laws.proofs.Records.{fields_length, force_is, parameters_length, functions_length, node_records_length}
use Rattle.theory_laws.proofs.TruthValues.{or_left, or_right}
use Rattle.theory_accepted.specs.Settled.{Settled}
use Rattle.theory_accepted.proofs.Sentences.{accepted_settled}
use Rattle.theory_trees.specs.Trees.{Falling}
use Rattle.theory_trees.proofs.Falls.{nodes_fall}
use Rattle.write_room.specs.Sizes.{parameters_size}
use Rattle.write_room.specs.Rooms.{parameter_count}
use Rattle.write_room.specs.Counting.{Below}

-- None at or above k: all below k.
roots_below : (k : ℕ) (rs : List FunctionRecord) → any (λ r. leb k r.root) rs ≡ false → Below k (map (λ r. r.root) rs)
unfolding any Below
roots_below k [] h = tt
roots_below k (r ∷ rs) h = (leb-false k r.root (or_left (leb k r.root) _ h), roots_below k rs (or_right (leb k r.root) _ h))

-- "a one-byte parameter count, 0 to 8"
few_parameters_law : (nodes : List Node) (rs : List FunctionRecord) → any (λ r. ltb 8 (length r.parameters)) rs ≡ false
    → parameters_size (map (function_of nodes) rs) ≤ 8 * length rs
unfolding any parameters_size
few_parameters_law nodes [] h = omega arith
few_parameters_law nodes (r ∷ rs) h =
    let l = ltb-false 8 (length r.parameters) (or_left (ltb 8 (length r.parameters)) _ h) in
    let m = length-map r.parameters parameter_of in
    omega (arith, few_parameters_law nodes rs (or_right (ltb 8 (length r.parameters)) _ h))

-- A function takes three bytes, and two for each parameter.
functions_passed_law : (nodes : List Node) (k : ℕ) (file : List ℕ) (at : ℕ)
    → functions_end k file at ≡ at + 3 * k + 2 * parameters_size (map (function_of nodes) (function_records k file at))
unfolding functions_passed functions_read parameters_size
functions_passed_law nodes zero file at = omega arith
functions_passed_law nodes (suc k) file at =
    let end = function_end file at in
    let rest = ap (λ (rs : List FunctionRecord). parameters_size (map (function_of nodes) rs)) (force_is end (function_records k file)) in
    let m = length-map (parameter_records (byte_at file at) file (at + 1)) parameter_of in
    omega (arith, force_is end (functions_end k file), functions_passed_law nodes k file end, parameters_length (byte_at file at) file (at + 1))

flat_map_law : {A B C : Type 0} (g : A → B) (f : B → List C) (xs : List A) → flat_map f (map g xs) ≡ flat_map (λ x. f (g x)) xs
unfolding flat_map
flat_map_law g f [] = refl
flat_map_law g f (x ∷ xs) = ap (λ ys. f (g x) ++ ys) (flat_map_law g f xs)

-- A record of no kind, which reads as a node that is not there.
abbrev no_record : NodeRecord
no_record = record { kind = 0; arg = 0; first = 0; second = 0; third = 0 }

module _ (file : List ℕ) (accepted : check_number file ≡ 0) where
  abbrev sections : Sections
  sections = sections_of file

  abbrev nodes : List Node
  nodes = map node_of sections.nodes

  settled : Settled file
  settled = accepted_settled file accepted

  pub fields_counted_law : length sections.fields ≡ field_count file
  unfolding sections_read
  fields_counted_law = fields_length (field_count file) file 1

  pub functions_counted_law : length sections.functions ≡ function_count file
  unfolding sections_read
  functions_counted_law = functions_length (function_count file) file _

  pub nodes_counted_law : length sections.nodes ≡ node_count file
  unfolding sections_read
  nodes_counted_law = ap length (force_is (nodes_at file + 2) (node_records (node_count file) file)) ∙ node_records_length (node_count file) file (nodes_at file + 2)

  abbrev many_parameters : Bool
  many_parameters = any (λ r. ltb 8 (length r.parameters)) sections.functions

  -- Number 2.
  pub record Counts : Type 0 where
    pub fields : length sections.fields ≤ 64
    pub functions : length sections.functions ≤ 16
    pub parameters : parameter_count file ≤ 128
    pub nodes : length sections.nodes ≤ 512

  pub counts : Counts
  unfolding count_off_limits contract_of
  counts =
      let off = settled.counts in
      let four = or_left (ltb 64 (field_count file) || is_zero (function_count file) || ltb 16 (function_count file) || many_parameters) (ltb 512 (node_count file)) off in
      let three = or_left (ltb 64 (field_count file) || is_zero (function_count file) || ltb 16 (function_count file)) many_parameters four in
      let two = or_left (ltb 64 (field_count file) || is_zero (function_count file)) (ltb 16 (function_count file)) three in
      let a = fields_counted_law in
      let b = functions_counted_law in
      let c = nodes_counted_law in
      let few = ltb-false 64 (field_count file) (or_left (ltb 64 (field_count file)) (is_zero (function_count file)) two) in
      let few₂ = ltb-false 16 (function_count file) (or_right (ltb 64 (field_count file) || is_zero (function_count file)) (ltb 16 (function_count file)) three) in
      let few₃ =
      ltb-false 512 (node_count file)
      (or_right (ltb 64 (field_count file) || is_zero (function_count file) || ltb 16 (function_count file) || many_parameters) (ltb 512 (node_count file)) off) in
      record {
        fields = omega arith;
        functions = omega arith;
        parameters = omega (arith, few_parameters_law nodes sections.functions (or_right (ltb 64 (field_count file) || is_zero (function_count file) || ltb 16 (function_count file)) many_parameters four));
        nodes = omega arith;
      }

  -- Number 1: how long the file is.
  pub file_length : length file ≡ 4 + 3 * field_count file + 3 * function_count file + 2 * parameter_count file + 8 * node_count file
  unfolding ends_wrongly contract_of sections_read nodes_begin
  file_length =
      omega (
        arith,
        eqb-true (length file) (file_end file) (not-false _ settled.ends),
        functions_passed_law nodes (function_count file) file (functions_at file + 1),
      )

  -- Number 4.
  abbrev owners_off : Bool
  owners_off = any (λ r. any (leb (length sections.fields)) (field_of_declared_owner (field_of r).owner)) sections.fields

  abbrev roots_off : Bool
  roots_off = any (λ r. leb (length sections.nodes) r.root) sections.functions

  abbrev node_off : ℕ → NodeRecord → Bool
  node_off n r = any (leb (length sections.fields)) (fields_named (node_of r)) || any (leb n) (children (node_of r))

  pub roots_inside : Below (length sections.nodes) (map (λ r. r.root) sections.functions)
  unfolding names_nothing
  roots_inside =
      roots_below (length sections.nodes) sections.functions
      (or_right owners_off roots_off (or_left (owners_off || roots_off) (any_numbered node_off 0 sections.nodes) settled.numbers))

  pub falling : Falling nodes
  falling = nodes_fall sections settled.numbers

  -- Number 5.
  pub used_once : (n : ℕ) → n < length sections.nodes
      → count_if (eqb n) (map (λ r. r.root) sections.functions) + count_if (eqb n) (flat_map children nodes) ≤ 1
  unfolding used_other_than_once uses_of
  used_once n l =
      let off = none_numbered (λ m r. not (eqb (count_if (eqb m) (uses_of sections)) 1)) 0 sections.nodes settled.uses n no_record l in
      let e : 0 + n ≡ n = omega arith in
      let one = eqb-true (count_if (eqb n) (uses_of sections)) 1 (not-false _ (rw e at off)) in
      let parts = count_append (eqb n) (map (λ r. r.root) sections.functions) (flat_map (λ r. children (node_of r)) sections.nodes) in
      let same = ap (count_if (eqb n)) (flat_map_law node_of children sections.nodes) in
      omega arith
