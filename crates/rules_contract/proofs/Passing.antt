-- What numbers 2, 3 and 4 leave, record by record: all that judging relies on.
use Rattle.std.specs.Prelude.{◌≡◌, ◌||◌, ◌∷◌, ◌+◌, ◌*◌, ◌/◌, ◌<◌, ◌≤◌}
use Rattle.kit.specs.Names.{refl, Bool, false, not, List, [], ℕ, zero, suc, arith, leb, ltb}
use Rattle.kit.specs.Names.{length, ltb-false, leb-false}
use Rattle.definitions.specs.Basics.{any, any_numbered}
use Rattle.definitions.specs.ContractFile.{FieldRecord, FunctionRecord, NodeRecord, field_of, node_of, fields_named, children}
use Rattle.definitions.specs.Numbers.{field_in_tables, parameter_in_tables, node_in_tables, field_of_declared_owner, outside_tables, names_nothing}
use Rattle.theory_laws.proofs.TruthValues.{or_left, or_right, not_false_true}
use Rattle.file_decoded.specs.Slices.{number_at, field_from, fields_from, function_from, functions_from, node_from, nodes_from}
use Rattle.file_decoded.proofs.Records.{fields_length, parameters_length, nodes_length}
use Rattle.rules_scopes.specs.Scopes.{FieldsReady, NodesReady}
use Rattle.rules_contract.specs.Sections.{Passed}

-- A numbered test that no record passes, at the record of a number. Records stand one behind another, record i so many numbers ahead.
module _ {A : Type 0} (read : ℕ → A) (from : ℕ → ℕ → List A) (width : ℕ) (ahead : ℕ → ℕ) (none : ahead 0 ≡ 0) (more : (i : ℕ) → ahead (suc i) ≡ width + ahead i)
    (next : (count at : ℕ) → from (suc count) at ≡ read at ∷ from count (at + width)) where
  each_from : (test : ℕ → A → Bool) (count k at : ℕ) → any_numbered test k (from count at) ≡ false → (i : ℕ) → i < count → test (k + i) (read (at + ahead i)) ≡ false
  unfolding any_numbered
  each_from test zero k at h i l = absurd (omega arith)
  each_from test (suc count) k at h zero l =
      let e : at + ahead 0 ≡ at = omega (arith, none) in
      let d : k + 0 ≡ k = omega arith in
      rw (e, d) (or_left (test k (read at)) _ (rw (next count at) at h))
  each_from test (suc count) k at h (suc i) l =
      let e : at + ahead (suc i) ≡ at + width + ahead i = omega (arith, more i) in
      let d : k + suc i ≡ suc k + i = omega arith in
      rw (e, d) (each_from test count (suc k) (at + width) (or_right (test k (read at)) _ (rw (next count at) at h)) i (omega arith))

  pub each_record : (test : ℕ → A → Bool) (count : ℕ) → any_numbered test 0 (from count 0) ≡ false → (i : ℕ) → i < count → test i (read (ahead i)) ≡ false
  each_record test count h i l =
      let e : 0 + ahead i ≡ ahead i = omega arith in
      let d : 0 + i ≡ i = omega arith in
      rw (e, d) at (each_from test count 0 0 h i l)

pub any_numbered_law : {A : Type 0} (test : A → Bool) (k : ℕ) (xs : List A) → any test xs ≡ false → any_numbered (λ n. test) k xs ≡ false
unfolding any any_numbered
any_numbered_law test k [] h = refl
any_numbered_law test k (x ∷ xs) h = rw (or_left (test x) _ h) (any_numbered_law test (suc k) xs (or_right (test x) _ h))

pub none_of_three : (a b c : Bool) → (a || b || c) ≡ false → (a ≡ false) × (b ≡ false) × (c ≡ false)
none_of_three a b c h = (or_left a b (or_left (a || b) c h), or_right a b (or_left (a || b) c h), or_right (a || b) c h)

module _ (fields functions parameters nodes : List ℕ) (p : Passed fields functions parameters nodes) where
  abbrev fields_here : List FieldRecord
  fields_here = fields_from (length fields / 3) fields 0

  abbrev functions_here : List FunctionRecord
  functions_here = functions_from parameters (length functions / 3) functions 0

  abbrev nodes_here : List NodeRecord
  nodes_here = nodes_from (length nodes / 5) nodes 0

  field_at : (test : FieldRecord → Bool) → any test fields_here ≡ false → (f : ℕ) → f < length fields / 3 → test (field_from fields (3 * f)) ≡ false
  unfolding fields_from
  field_at test h =
      each_record (field_from fields) (λ count. fields_from count fields) 3 (λ f. 3 * f) (omega arith) (λ f. omega arith) (λ count at. refl)
      (λ n. test) (length fields / 3) (any_numbered_law test 0 fields_here h)

  function_at_law : (test : FunctionRecord → Bool) → any test functions_here ≡ false → (f : ℕ) → f < length functions / 3
      → test (function_from parameters functions (3 * f)) ≡ false
  unfolding functions_from
  function_at_law test h =
      each_record (function_from parameters functions) (λ count. functions_from parameters count functions) 3 (λ f. 3 * f) (omega arith) (λ f. omega arith)
      (λ count at. refl) (λ n. test) (length functions / 3) (any_numbered_law test 0 functions_here h)

  node_at_law : (test : ℕ → NodeRecord → Bool) → any_numbered test 0 nodes_here ≡ false → (n : ℕ) → n < length nodes / 5 → test n (node_from nodes (5 * n)) ≡ false
  unfolding nodes_from
  node_at_law test h =
      each_record (node_from nodes) (λ count. nodes_from count nodes) 5 (λ n. 5 * n) (omega arith) (λ n. omega arith) (λ count at. refl) test (length nodes / 5) h

  tables : (any (λ r. not (field_in_tables r)) fields_here ≡ false) × (any (λ r. any (λ x. not (parameter_in_tables x)) r.parameters) functions_here ≡ false)
      × (any (λ r. not (node_in_tables r)) nodes_here ≡ false)
  unfolding outside_tables
  tables = none_of_three _ _ _ p.tables

  names : (any (λ r. any (leb (length fields_here)) (field_of_declared_owner (field_of r).owner)) fields_here ≡ false)
      × (any (λ r. leb (length nodes_here) r.root) functions_here ≡ false)
      × (any_numbered (λ n r. any (leb (length fields_here)) (fields_named (node_of r)) || any (leb n) (children (node_of r))) 0 nodes_here ≡ false)
  unfolding names_nothing
  names = none_of_three _ _ _ p.numbers

  few_fields_law : length fields_here ≡ length fields / 3
  few_fields_law = fields_length (length fields / 3) fields 0

  pub fields_ready : FieldsReady fields
  fields_ready =
      record {
        few = p.few_fields;
        listed = λ f h. not_false_true _ (field_at _ tables.0 f h);
        named = λ f h. rw few_fields_law at (field_at _ names.0 f h);
      }

  pub nodes_ready : NodesReady fields nodes
  nodes_ready =
      record {
        few = p.shaped.few_nodes;
        listed = λ n h. not_false_true _ (node_at_law _ (any_numbered_law _ 0 nodes_here tables.2) n h);
        named = λ n h. rw (← few_fields_law) (or_left _ _ (node_at_law _ names.2 n h));
        falling = λ n h. or_right (any (leb (length fields_here)) (fields_named (node_of (node_from nodes (5 * n))))) _ (node_at_law _ names.2 n h);
      }

  -- A function's parameters are few and in the tables, its root is a node.
  module _ (f : ℕ) (inside : f < length functions / 3) where
    pub few_parameters_law : number_at functions (3 * f + 1) ≤ 8
    few_parameters_law =
        let few = ltb-false 8 (length (function_from parameters functions (3 * f)).parameters) (function_at_law (λ r. ltb 8 (length r.parameters)) p.few_parameters f inside) in
        omega (arith, few, parameters_length (number_at functions (3 * f + 1)) parameters (number_at functions (3 * f)))

    pub parameters_listed : any (λ x. not (parameter_in_tables x)) (function_from parameters functions (3 * f)).parameters ≡ false
    parameters_listed = function_at_law _ tables.1 f inside

    pub root_there : number_at functions (3 * f + 2) < length nodes / 5
    root_there = rw (← nodes_length (length nodes / 5) nodes 0) (leb-false _ _ (function_at_law _ names.1 f inside))
