-- An accepted file: each body of its contract is accepted in its scope.
use Rattle.std.specs.Prelude.{◌≡◌, ◌||◌, ◌∷◌}
use Rattle.kit.specs.Names.{refl, subst, Bool, true, false, not, List, [], map, ℕ, zero, suc, get_or}
use Rattle.definitions.specs.Basics.{any, flat_map}
use Rattle.definitions.specs.ContractFile.{to_final, skip, Field, Contract, field_at, function_at, scope_of, is_final, FunctionRecord, sections_of, field_of, Node, node_of, function_of, contract_of, contract_in}
use Rattle.definitions.specs.Numbers.{fault, field_in_tables, parameter_in_tables, node_in_tables, outside_tables, statement_faults, field_of_declared_owner, field_faults, function_faults, contract_faults, check_number}
use Rattle.theory_laws.proofs.TruthValues.{or_left, or_right}
use Rattle.theory_relations.specs.Acceptance.{FieldsFit, AcceptedBody, constants_fit_in}
use Rattle.theory_typing.proofs.Basics.{append_left_empty, append_right_empty, fault_none_not}
use Rattle.theory_typing.proofs.Places.{no_field}
use Rattle.theory_accepted.proofs.Sentences.{no_sentence_holds, accepted_settled}
use Rattle.theory_typing.proofs.FaultNumbers.{contract_faultless}
use Rattle.theory_typing.proofs.Tables.{FieldFits, statement_constants, each_field_fits}

-- Where what is put together from each element is empty, it is so from each.
pub flat_map_empty : {A B : Type 0} (F : A → List B) (xs : List A) → flat_map F xs ≡ [] → (i : ℕ) (e : A) → F e ≡ [] → F (get_or xs i e) ≡ []
unfolding flat_map
flat_map_empty F [] h i e past = past
flat_map_empty F (x ∷ xs) h zero e past = append_left_empty (F x) (flat_map F xs) h
flat_map_empty F (x ∷ xs) h (suc i) e past = flat_map_empty F xs (append_right_empty (F x) (flat_map F xs) h) i e past

module _ (file : List ℕ) (clear : check_number file ≡ 0) where
  pub in_tables : outside_tables (sections_of file) ≡ false
  in_tables = (accepted_settled file clear).tables

  pub no_faults : contract_faults (contract_in file) ≡ []
  no_faults = contract_faultless (contract_in file) (λ j. no_sentence_holds file clear (suc (suc (suc (suc (suc (suc (suc j))))))))

  abbrev fields_off : Bool
  fields_off = any (λ r. not (field_in_tables r)) (sections_of file).fields

  abbrev parameters_off : Bool
  parameters_off = any (λ r. any (λ p. not (parameter_in_tables p)) r.parameters) (sections_of file).functions

  abbrev nodes_off : Bool
  nodes_off = any (λ r. not (node_in_tables r)) (sections_of file).nodes

  fields_in_tables : fields_off ≡ false
  unfolding outside_tables
  fields_in_tables = or_left fields_off parameters_off (or_left (fields_off || parameters_off) nodes_off in_tables)

  nodes_in_tables : nodes_off ≡ false
  unfolding outside_tables
  nodes_in_tables = or_right (fields_off || parameters_off) nodes_off in_tables

  abbrev contract : Contract
  contract = contract_in file

  field_faultless : (f : ℕ) → field_faults contract.fields (field_at contract.fields f) ≡ []
  unfolding contract_faults flat_map
  field_faultless f =
      flat_map_empty (field_faults contract.fields) contract.fields
      (append_left_empty (flat_map (field_faults contract.fields) contract.fields) (flat_map (function_faults contract.fields) contract.functions) no_faults)
      f no_field refl

  owner_is_final : (d : Field) (g : ℕ) → field_faults contract.fields d ≡ [] → d.owner ≡ to_final g → is_final (field_at contract.fields g).shape ≡ true
  unfolding flat_map
  owner_is_final d g h e =
      let faults : ℕ → List ℕ = λ f. fault (not (is_final (field_at contract.fields f).shape)) 8 in
      let one : flat_map faults (field_of_declared_owner (to_final g)) ≡ [] = subst (λ o. flat_map faults (field_of_declared_owner o) ≡ []) e h in
      fault_none_not (is_final (field_at contract.fields g).shape) 8 (append_left_empty (faults g) [] one)

  pub fields_fit : FieldsFit contract.fields
  unfolding contract_of
  fields_fit =
      record {
        tagged = λ f. (each f).tagged;
        public = λ f. (each f).public;
        address = λ f. (each f).typed;
        owners = λ f g e. owner_is_final (field_at contract.fields f) g (field_faultless f) e;
      }
    where
      each : (f : ℕ) → FieldFits (field_at (map field_of (sections_of file).fields) f)
      each = each_field_fits (sections_of file).fields fields_in_tables

  abbrev nodes : List Node
  nodes = map node_of (sections_of file).nodes

  body_constants : (rs : List FunctionRecord) (f : ℕ) → constants_fit_in (function_at (map (function_of nodes) rs) f).body ≡ true
  unfolding constants_fit_in
  body_constants [] f = refl
  body_constants (r ∷ rs) zero = statement_constants (sections_of file).nodes nodes_in_tables (suc r.root) r.root
  body_constants (r ∷ rs) (suc f) = body_constants rs f

  function_faultless : (f : ℕ) → function_faults contract.fields (function_at contract.functions f) ≡ []
  unfolding contract_faults statement_faults
  function_faultless f =
      flat_map_empty (function_faults contract.fields) contract.functions
      (append_right_empty (flat_map (field_faults contract.fields) contract.fields) (flat_map (function_faults contract.fields) contract.functions) no_faults)
      f (record { parameters = []; body = skip }) refl

  pub accepted : (f : ℕ) → AcceptedBody (scope_of contract f) (function_at contract.functions f).body
  unfolding contract_of
  accepted f = record { fields = fields_fit; faultless = function_faultless f; constants = body_constants (sections_of file).functions f }
