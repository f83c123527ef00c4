-- The parts of number 18's test make the definition's.
use Rattle.std.specs.Prelude.{◌≡◌, ◌&&◌, ◌||◌, ◌<◌}
use Rattle.kit.specs.Names.{refl, ap, sym, ◌∙◌, Bool, true, false, List, [], map, ℕ, eqb, eq-eqb}
use Rattle.definitions.specs.ContractFile.{Function, Scope, function_count, contract_of}
use Rattle.definitions.specs.Numbers.{check_number}
use Rattle.definitions.specs.Rewriting.{rewrite_function}
use Rattle.definitions.specs.Original.{address_in}
use Rattle.definitions.specs.Ledger as ledger
use Rattle.definitions.specs.Ledger.{plain_number, fits, all_fit, public_of, parameter_form, function_of_ledger, is_before_calls, is_after_done, is_after_failed, is_after_call, is_well_formed}
use Rattle.file_accepted.specs.Context.{fields_in, parameters_in, scope_in}
use Rattle.file_accepted.specs.Functions.{function_start}
use Rattle.file_accepted.proofs.Functions.{function_in_law}
use Rattle.ledger_18_forms.specs.Forms.{fits_or_zero}
use Rattle.ledger_18_parameters.specs.Parameters.{forms_of_parameters}
use Rattle.ledger_18_places.specs.Places.{forms_of_places}
use Rattle.ledger_18_variable.specs.Variables.{variable_form}
use Rattle.write_function_room.specs.Functions.{function_in, written_in}

module _ (l : ledger.Ledger) where
  abbrev done_with : Function → List ℕ → Bool
  done_with g numbers =
      let fields = fields_in l.file in
      let scope : Scope = record { fields = fields; parameters = g.parameters } in
      (eqb l.outcome 0 && all_fit fits (map (parameter_form l.caller) g.parameters) l.parameters)
      && all_fit fits_or_zero
      (map (variable_form scope (address_in scope l.caller (map plain_number l.parameters) numbers)) (rewrite_function fields g).variables) l.variables

  abbrev failed_with : Function → Bool
  failed_with g =
      (eqb l.outcome 1 && all_fit fits (public_of g.parameters (map (parameter_form l.caller) g.parameters)) l.parameters)
      && all_fit fits [] l.variables

  -- The function of the last call, which is there, by the place where it begins.
  module _ (at : ℕ) (begins : at ≡ function_start l.file l.function) (inside : l.function < function_count l.file) where
    function_is : function_of_ledger l l.function ≡ function_in l.file at
    function_is = function_in_law l.file l.function inside ∙ ap (function_in l.file) (sym begins)

    pub done_is : (numbers : List ℕ) → numbers ≡ map plain_number l.places → (a : Bool)
        → a ≡ all_fit fits (forms_of_parameters true l.caller (parameters_in l.file at)) l.parameters
        → is_after_done l
        ≡ ((eqb l.outcome 0 && a)
        && all_fit fits_or_zero
        (map (variable_form (scope_in l.file at) (address_in (scope_in l.file at) l.caller (map plain_number l.parameters) numbers)) (written_in l.file at).variables)
        l.variables)
    unfolding contract_of fields_in
    done_is numbers plain a e = rw e (λ i. done_with (function_is i) (sym plain i))

    pub failed_is : (a : Bool) → a ≡ all_fit fits (forms_of_parameters false l.caller (parameters_in l.file at)) l.parameters
        → is_after_failed l ≡ ((eqb l.outcome 1 && a) && all_fit fits [] l.variables)
    failed_is a e = rw e (ap failed_with function_is)

  -- Of an accepted file. The places are tested first.
  pub well_is : (numbers : List ℕ) → numbers ≡ map plain_number l.places → check_number l.file ≡ 0 → (a : Bool)
      → a ≡ all_fit fits (forms_of_places (fields_in l.file) numbers) l.places → is_well_formed l ≡ (a && (is_before_calls l || is_after_call l))
  unfolding is_well_formed contract_of fields_in
  well_is numbers plain accepted a e =
      rw (e, eq-eqb (check_number l.file) 0 accepted, plain)
      (both (is_before_calls l || is_after_call l) (all_fit fits (forms_of_places (fields_in l.file) (map plain_number l.places)) l.places))
    where
      both : (a b : Bool) → (a && b) ≡ (b && a)
      both true true = refl
      both true false = refl
      both false true = refl
      both false false = refl
