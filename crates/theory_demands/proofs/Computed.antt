-- What the definitions compute of the example's calls, with one list of names to unfold.
use Rattle.std.specs.Prelude.{◌≡◌, ◌||◌, ◌∷◌}
use Rattle.kit.specs.Names.{refl, ap, true, false, not, false≢true, List, [], zip_with, ℕ, zero, suc, eqb, ltb, length, get_or}
use Rattle.definitions.specs.ContractFile.{everyone, Contract, parameter_at, function_at, field_of, parameter_of, type_of, kind_of}
use Rattle.definitions.specs.ContractFile.{node_of_kind, expression_parts, statement_parts, fields_named, chain_length, expression_of}
use Rattle.definitions.specs.ContractFile.{expression_at, statement_of, statement_at, contract_of, same_name, contract_in}
use Rattle.definitions.specs.Basics.{all, any, any_numbered, count_if, largest, flat_map, first_that_holds}
use Rattle.definitions.specs.Reading.{functions_passed, nodes_begin, fields_read, parameters_read, functions_read, nodes_read, sections_read}
use Rattle.definitions.specs.Ledger.{content_at, opens_for, function_of_ledger, honest_parameters_of, deploy_number, deployed, all_fit, public_of}
use Rattle.definitions.specs.Ledger.{is_well_formed, not_callable, arguments_off, call_number, call_with, honest_contents, honest_variables}
use Rattle.definitions.specs.Ledger.{honest_parameters, ledger_after_call, circuit_value, content_of, is_walked, state_after, walk_completes}
use Rattle.definitions.specs.Numbers.{ends_wrongly, count_off_limits, field_in_tables, parameter_in_tables, kind_in_tables, outside_tables}
use Rattle.definitions.specs.Numbers.{names_nothing, uses_of, used_other_than_once, too_deep, wrong_sort, expression_faults, statement_faults}
use Rattle.definitions.specs.Numbers.{contract_faults, check_number}
use Rattle.definitions.specs.Original.{anyone, only, place_readers, value, is_worked_out, places_after, completes, disclosed, disclosed_by}
use Rattle.definitions.specs.Original.{original_completes, original_after, original_discloses, numbers_from, per_place, position}
use Rattle.definitions.specs.Original.{deployed_numbers}
use Rattle.definitions.specs.Owners.{with_link, name_of, owner_of, links_of_condition, links_after}
use Rattle.definitions.specs.Rewriting.{Circuit, always, equals, kept, one_part, two_parts, supplying, reading, steps_before, single}
use Rattle.definitions.specs.Rewriting.{in_sequence, in_branch, in_branches, rewrite_statement, private_parameters, openings, rewrite_function}
use Rattle.definitions.specs.Rewriting.{rewrite, in_body, in_circuit}
use Rattle.definitions.specs.View.{Request, AlikeFor, Paired, finished, both_refused, both_taken, run_at_deployment, is_taken, run_after}
use Rattle.definitions.specs.View.{disclosed_in, views_after, disclosures, item_for, items_for, item_bytes, view_bytes}
use Rattle.theory_demands.specs.Claims.{run_after_all, call_numbers}
use Rattle.theory_demands.specs.Example.{tagged, pay, refused, show, calls, start, after, after_third}

-- Every call is alike to itself.
pub alike_itself : (party : ℕ) (contract : Contract) (r : Request) → AlikeFor party contract r r
alike_itself party contract r = record { function = refl; caller = refl; arguments = λ k e. refl }

pub record Computed : Type 0 where
  pub accepted : deploy_number tagged [] ≡ 0
  pub numbers : call_numbers start (calls 7) ≡ 0 ∷ 18 ∷ 0 ∷ 0 ∷ []
  pub numbers' : call_numbers start (calls 8) ≡ 0 ∷ 18 ∷ 0 ∷ 0 ∷ []
  -- The one parameter is private, so for a party that is not the caller every two arguments are alike.
  pub alike : AlikeFor 4 (contract_in tagged) (pay 7) (pay 8)
  pub paired : Paired 4 start start (calls 7) (calls 8)
  pub disclosed : disclosures 4 start (calls 7) ≡ [] ∷ [] ∷ (7 ∷ []) ∷ (0 ∷ []) ∷ []
  pub disclosed' : disclosures 4 start (calls 8) ≡ [] ∷ [] ∷ (8 ∷ []) ∷ (0 ∷ []) ∷ []
  pub views_differ : get_or (views_after 4 start (calls 7)) 3 [] ≡ get_or (views_after 4 start (calls 8)) 3 [] → ⊥
  pub first_taken : is_taken (after 0) (pay 7) ≡ true
  pub third_taken : is_taken (after 2) (show 3) ≡ true
  pub fourth_taken : is_taken (after 3) (show 4) ≡ true
  pub original : (after 4).original ≡ 0 ∷ 0 ∷ 0 ∷ 7 ∷ 0 ∷ 0 ∷ 0 ∷ 0 ∷ 0 ∷ 0 ∷ 0 ∷ 0 ∷ 0 ∷ 0 ∷ 0 ∷ 0 ∷ 1 ∷ []
  pub reader : get_or (place_readers (contract_in (after 4).ledger.file).fields (after 4).original) 3 anyone ≡ only 3
  pub first_completes : original_completes (contract_in (after 0).ledger.file) (after 0).original 0 3 (7 ∷ []) ≡ true
  pub third_completes : original_completes (contract_in (after 2).ledger.file) (after 2).original 1 3 [] ≡ true
  pub fourth_fails : original_completes (contract_in (after 3).ledger.file) (after 3).original 1 4 [] ≡ false
  pub constraints :
      (rewrite_function (contract_in (after 2).ledger.file).fields (function_of_ledger after_third after_third.function)).constraints
      ≡ record { guard = always; claim = equals 0 everyone (Circuit.opened 1) } ∷ []
  pub view_fits : ltb 1000 (length (view_bytes 4 (after 4).ledger)) ≡ false
  pub first_call : (after 1).ledger.call ≡ 1
  pub argument_is_cell : opens_for 3 (content_at (honest_parameters_of (after 1).ledger 0 3 (9 ∷ [])) 0) ≡ true
  pub told : disclosed_in 4 (after 2) (show 3) ≡ 7 ∷ []
  pub third_variables : length (after 3).ledger.variables ≡ 2
  pub fourth_variables : (after 4).ledger.variables ≡ []

pub computed : Computed
unfolding all any any_numbered count_if largest flat_map first_that_holds deploy_number deployed all_fit public_of is_well_formed not_callable arguments_off call_number call_with honest_contents honest_variables honest_parameters ledger_after_call functions_passed nodes_begin fields_read parameters_read functions_read nodes_read sections_read field_of parameter_of type_of circuit_value content_of is_walked state_after walk_completes kind_of node_of_kind expression_parts statement_parts fields_named chain_length expression_of expression_at statement_of statement_at contract_of ends_wrongly count_off_limits field_in_tables parameter_in_tables kind_in_tables outside_tables names_nothing uses_of used_other_than_once too_deep wrong_sort expression_faults statement_faults contract_faults check_number value is_worked_out places_after completes disclosed disclosed_by original_completes original_after original_discloses with_link name_of owner_of links_of_condition links_after numbers_from per_place position deployed_numbers kept one_part two_parts supplying reading steps_before single in_sequence in_branch in_branches rewrite_statement private_parameters openings rewrite_function rewrite in_body in_circuit run_at_deployment is_taken run_after disclosed_in views_after disclosures same_name item_for items_for item_bytes view_bytes zip_with run_after_all call_numbers tagged start calls pay refused show
computed =
    record {
      accepted = refl;
      numbers = refl;
      numbers' = refl;
      alike = alike;
      paired =
          both_taken refl refl alike
          (both_refused refl refl (both_taken refl refl (alike_itself 4 _ _) (both_taken refl refl (alike_itself 4 _ _) finished)));
      disclosed = refl;
      disclosed' = refl;
      views_differ = λ e. let same : ◌≡◌ {A = ℕ} 7 8 = ap (λ (bytes : List ℕ). get_or bytes 11 0) e in false≢true (ap (eqb 8) same);
      first_taken = refl;
      third_taken = refl;
      fourth_taken = refl;
      original = refl;
      reader = refl;
      first_completes = refl;
      third_completes = refl;
      fourth_fails = refl;
      constraints = refl;
      view_fits = refl;
      first_call = refl;
      argument_is_cell = refl;
      told = refl;
      third_variables = refl;
      fourth_variables = refl;
    }
  where
    private : (k : ℕ) → not (parameter_at (function_at (contract_in tagged).functions 0).parameters k).private || eqb 3 4 ≡ true
        → ◌≡◌ {A = ℕ} (get_or (7 ∷ []) k 0) (get_or (8 ∷ []) k 0)
    private zero e = absurd (false≢true e)
    private (suc k) e = refl

    alike : AlikeFor 4 (contract_in tagged) (pay 7) (pay 8)
    alike = record { function = refl; caller = refl; arguments = private }
