-- The functions of a contract one after another: the least fault so far, and the column so far, with those of the functions ahead.
use Rattle.std.specs.Prelude.{◌≡◌, ◌∷◌, ◌+◌, ◌*◌, ◌-◌, ◌/◌, ◌<◌, ◌≤◌}
use Rattle.kit.specs.Names.{refl, ap, sym, ◌∙◌, false, not, List, [], map, ℕ, zero, suc, min, arith}
use Rattle.kit.specs.Names.{length, take, drop, length-drop, get_or-take, get_or-drop, length-take-le}
use Rattle.definitions.specs.Basics.{any, flat_map, first_that_holds}
use Rattle.definitions.specs.ContractFile.{FunctionRecord, function_of, contract_of}
use Rattle.definitions.specs.Numbers.{function_faults, field_faults, parameter_in_tables, contract_faults, contract_sentences}
use Rattle.theory_laws.proofs.TruthValues.{not_false_true}
use Rattle.file_decoded.specs.Slices.{number_at, parameter_from, parameters_from, function_from, functions_from, sections_from}
use Rattle.file_decoded.proofs.Records.{functions_step, functions_end_law}
use Rattle.rules_faults.specs.Faults.{least_fault, number_of}
use Rattle.rules_faults.proofs.Faults.{least_append, least_sentence}
use Rattle.rules_scopes.specs.Trees.{nodes_in}
use Rattle.rules_scopes.specs.Scopes.{scope_from, ParametersReady}
use Rattle.rules_marks.proofs.Marking.{marked_length}
use Rattle.rules_fields.specs.Fields.{fields_in, all_fields_fault}
use Rattle.rules_contract.specs.Sections.{functions_marked, contract_marked, FunctionJudged, FunctionsJudged}
use Rattle.rules_fields.proofs.Fields.{flat_cons, flat_none, fault_start}
use Rattle.rules_contract.proofs.Passing.{each_record, any_numbered_law}

-- A function's own parameters, in a slice of their own and where they stand among all.
parameters_same : (own all : List ℕ) (from long : ℕ) → ((i : ℕ) → i < long → number_at own i ≡ number_at all (from + i)) → (count at : ℕ) → at + 2 * count ≤ long
    → parameters_from count own at ≡ parameters_from count all (from + at)
unfolding parameters_from
parameters_same own all from long same zero at h = refl
parameters_same own all from long same (suc count) at h =
    let one : from + (at + 1) ≡ from + at + 1 = omega arith in
    let two : from + (at + 2) ≡ from + at + 2 = omega arith in
    λ i. record { type = same at (omega arith) i; owner = (same (at + 1) (omega arith) ∙ ap (number_at all) one) i }
    ∷ (parameters_same own all from long same count (at + 2) (omega arith) ∙ ap (parameters_from count all) two) i

module _ (parameters : List ℕ) (from count : ℕ) (inside : from + 2 * count ≤ length parameters) where
  abbrev own : List ℕ
  own = take (from + 2 * count - from) (drop from parameters)

  own_length : length own ≡ 2 * count
  own_length =
      let h = length-drop from parameters in
      length-take-le (from + 2 * count - from) (drop from parameters) (omega arith) ∙ (omega arith)

  pub own_parameters : parameters_from (length own / 2) own 0 ≡ parameters_from count parameters from
  own_parameters =
      let e : length own / 2 ≡ count = let h = own_length in omega arith in
      let z : from + 0 ≡ from = omega arith in
      rw e (parameters_same own parameters from (2 * count) (λ i h.
      get_or-take (from + 2 * count - from) (drop from parameters) i 0 (omega arith) ∙ get_or-drop from parameters i 0) count 0 (omega arith) ∙ ap (parameters_from count parameters) z)

  pub own_ready : count ≤ 8 → any (λ p. not (parameter_in_tables p)) (parameters_from count parameters from) ≡ false → ParametersReady own
  unfolding parameters_from
  own_ready few listed =
      let h = own_length in
      record {
        few = omega arith;
        listed = λ k l. not_false_true _
            (each_record (parameter_from own) (λ count. parameters_from count own) 2 (λ i. 2 * i) (omega arith) (λ i. omega arith) (λ count at. refl)
            (λ n p. not (parameter_in_tables p)) (length own / 2) (any_numbered_law (λ p. not (parameter_in_tables p)) 0 _ (rw own_parameters listed)) k l);
      }

module _ (fields functions parameters nodes : List ℕ) where
  -- The functions from number f on.
  abbrev ahead : ℕ → List FunctionRecord
  ahead f = functions_from parameters (length functions / 3 - f) functions (3 * f)

  abbrev faults_of : List FunctionRecord → ℕ
  faults_of rs = least_fault (flat_map (function_faults (fields_in fields)) (map (function_of (nodes_in nodes)) rs))

  ahead_step : (f : ℕ) → f < length functions / 3 → ahead f ≡ function_from parameters functions (3 * f) ∷ ahead (f + 1)
  ahead_step f h =
      let a : length functions / 3 - f - 1 ≡ length functions / 3 - (f + 1) = omega arith in
      let b : 3 * f + 3 ≡ 3 * (f + 1) = omega arith in
      functions_step parameters functions (3 * f) (length functions / 3 - f) (omega arith)
      ∙ λ i. function_from parameters functions (3 * f) ∷ functions_from parameters (a i) functions (b i)

  -- The least fault and the column before function f is judged.
  pub record FunctionsSo (before : List ℕ) (f fault : ℕ) (owners : List ℕ) : Type 0 where
    pub few : fault ≤ 16
    pub least : min fault (faults_of (ahead f)) ≡ faults_of (functions_from parameters (length functions / 3) functions 0)
    pub column : functions_marked (fields_in fields) (nodes_in nodes) (ahead f) owners ≡ contract_marked fields functions parameters nodes before
    pub long : length owners ≡ length before

  pub functions_start_law : (before : List ℕ) → FunctionsSo before 0 16 before
  functions_start_law before =
      let a : length functions / 3 - 0 ≡ length functions / 3 = omega arith in
      let b : 3 * 0 ≡ 0 = omega arith in
      let e : ahead 0 ≡ functions_from parameters (length functions / 3) functions 0 = λ i. functions_from parameters (a i) functions (b i) in
      record {
        few = omega arith;
        least = rw e (fault_start (function_faults (fields_in fields)) (map (function_of (nodes_in nodes)) (functions_from parameters (length functions / 3) functions 0)));
        column = ap (λ rs. functions_marked (fields_in fields) (nodes_in nodes) rs before) e;
        long = refl;
      }

  module _ (before : List ℕ) (f fault : ℕ) (owners : List ℕ) (so : FunctionsSo before f fault owners) where
    abbrev here : FunctionRecord
    here = function_from parameters functions (3 * f)

    pub functions_more : (own owners' : List ℕ) (r next : ℕ) → f < length functions / 3
        → parameters_from (length own / 2) own 0 ≡ here.parameters
        → FunctionJudged (scope_from fields own) (nodes_in nodes) here.root owners owners' r → next ≡ min fault r → FunctionsSo before (f + 1) next owners'
    unfolding functions_marked
    functions_more own owners' r next h same judged e =
        let step = ahead_step f h in
        let one : least_fault (function_faults (fields_in fields) (function_of (nodes_in nodes) here)) ≡ r = rw same at judged.fault in
        let split : faults_of (ahead f) ≡ min r (faults_of (ahead (f + 1))) =
        ap faults_of step
        ∙ (flat_cons (function_faults (fields_in fields)) (function_of (nodes_in nodes) here) (map (function_of (nodes_in nodes)) (ahead (f + 1)))
        ∙ ap (λ x. min x (faults_of (ahead (f + 1)))) one) in
        record {
          few = omega (arith, so.few);
          least = omega (arith, split, so.least, e);
          column = rw (judged.column, same) (ap (λ rs. functions_marked (fields_in fields) (nodes_in nodes) rs owners) (sym step) ∙ so.column);
          long = ap length judged.column ∙ (marked_length _ _ owners ∙ so.long);
        }

    pub functions_done : length functions / 3 ≤ f → FunctionsJudged fields functions parameters nodes before owners fault
    unfolding functions_marked
    functions_done h =
        let none : ahead f ≡ [] = functions_end_law parameters functions (3 * f) (length functions / 3 - f) (omega arith) in
        let empty : faults_of (ahead f) ≡ 16 = ap faults_of none ∙ flat_none (function_faults (fields_in fields)) in
        record {
          fault = omega (arith, so.few, so.least);
          column = rw none at so.column;
        }

  -- The whole contract.
  pub number_is : (r fault one other : ℕ) → one ≡ all_fields_fault fields → other ≡ faults_of (functions_from parameters (length functions / 3) functions 0)
      → fault ≡ min one other → r ≡ number_of fault
      → r ≡ first_that_holds 8 (contract_sentences (contract_of (sections_from fields functions parameters nodes)))
  unfolding contract_faults contract_of
  number_is r fault one other a b e h =
      let both : fault ≡ min (all_fields_fault fields) (faults_of (functions_from parameters (length functions / 3) functions 0)) = rw (← a, ← b) e in
      h ∙ (ap number_of (both ∙ sym (least_append (flat_map (field_faults (fields_in fields)) (fields_in fields))
      (flat_map (function_faults (fields_in fields)) (map (function_of (nodes_in nodes)) (functions_from parameters (length functions / 3) functions 0)))))
      ∙ sym (least_sentence (contract_of (sections_from fields functions parameters nodes))))
