-- A taken call: what the ledger is after it, in terms of the original alone.
use Rattle.std.specs.Prelude.{◌≡◌}
use Rattle.kit.specs.Names.{refl, ap, ◌∙◌, Bool, cond, List, map, ℕ, suc}
use Rattle.definitions.specs.Basics.{is_zero}
use Rattle.definitions.specs.ContractFile.{Name, Statement, Scope, scope_of, contract_in}
use Rattle.definitions.specs.Original.{completes, places_after}
use Rattle.definitions.specs.Ledger.{Content, Ledger, State, opened_number, state_after, walk_completes, function_of_ledger, call_number, call_with, honest_parameters_of, honest_variables_of, ledger_after_call}
use Rattle.theory_relations.specs.Acceptance.{FieldsFit}
use Rattle.theory_typing.proofs.WellFormed.{ledger_body_accepted, ledger_fields_fit}
use Rattle.theory_typing.proofs.CallEnvironment.{original_address, call_well_formed, honest_parameters_stand, same_addresses, call_places_stand, call_environment}
use Rattle.theory_simulation.proofs.Call.{HonestCall, honest_end, honest_call}
use Rattle.theory_demands.proofs.CallParts.{after_failed, written_function, start_of_call}

module _ (l : Ledger) (function caller : ℕ) (arguments : List ℕ) where
  abbrev pub scope_of_call : Scope
  scope_of_call = scope_of (contract_in l.file) function

  abbrev pub body_of_call : Statement
  body_of_call = (function_of_ledger l function).body

  abbrev pub opened_places : List ℕ
  opened_places = map opened_number l.places

  abbrev pub address_of_call : Name → ℕ
  address_of_call = original_address l function caller arguments

  abbrev pub parameters_of_call : List Content
  parameters_of_call = honest_parameters_of l function caller arguments

  -- The state in which the honest walk ends, over the original's addresses.
  abbrev pub end_of_honest : State
  end_of_honest = honest_end scope_of_call body_of_call address_of_call (suc l.call) arguments opened_places parameters_of_call l.places

  abbrev pub completes_here : Bool
  completes_here = completes scope_of_call.fields address_of_call arguments opened_places body_of_call

  abbrev pub numbers_after : List ℕ
  numbers_after = places_after scope_of_call.fields address_of_call arguments opened_places body_of_call

  abbrev pub ledger_done : Ledger
  ledger_done =
      record {
        file = l.file;
        call = suc l.call;
        function = function;
        caller = caller;
        outcome = 0;
        parameters = parameters_of_call;
        variables = end_of_honest.variables;
        places = end_of_honest.places;
      }

  abbrev pub ledger_failed : Ledger
  ledger_failed = after_failed l function caller parameters_of_call (honest_variables_of l function caller arguments)

  -- The ledger after a call whose names have these addresses.
  abbrev ledger_over : (Name → ℕ) → Ledger
  ledger_over address_of =
      let g = written_function l function caller parameters_of_call (honest_variables_of l function caller arguments) in
      let start = start_of_call l function caller parameters_of_call (honest_variables_of l function caller arguments) in
      let end = state_after address_of (contract_in l.file).fields parameters_of_call start g.body in
      cond (walk_completes address_of (contract_in l.file).fields parameters_of_call g.constraints start g.body)
      (record {
        file = l.file;
        call = suc l.call;
        function = function;
        caller = caller;
        outcome = 0;
        parameters = parameters_of_call;
        variables = end.variables;
        places = end.places;
      })
      ledger_failed

  module _ (clear : call_number l function caller arguments ≡ 0) where
    pub fields_of_call : FieldsFit (contract_in l.file).fields
    fields_of_call = ledger_fields_fit l (call_well_formed l function caller arguments clear)

    pub honest : HonestCall scope_of_call body_of_call address_of_call (suc l.call) arguments opened_places parameters_of_call l.places
    honest =
        honest_call scope_of_call body_of_call address_of_call (suc l.call) arguments opened_places parameters_of_call l.places
        (ledger_body_accepted l (call_well_formed l function caller arguments clear) function) (call_environment l function caller arguments clear) (call_places_stand l function caller arguments clear)
        (record { each = honest_parameters_stand l function caller arguments clear address_of_call refl })

    pub ledger_after : ledger_after_call l function caller arguments ≡ cond completes_here ledger_done ledger_failed
    unfolding ledger_after_call call_with
    ledger_after =
        ap (λ n. cond (is_zero n) (call_with l function caller parameters_of_call (honest_variables_of l function caller arguments)) l) clear
        ∙ ap ledger_over (same_addresses l function caller arguments clear) ∙ ap (λ b. cond b ledger_done ledger_failed) honest.ends
