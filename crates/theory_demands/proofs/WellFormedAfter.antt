-- The ledger that a taken call returns passes the ledger's own test again.
use Rattle.std.specs.Prelude.{◌≡◌, ◌&&◌, ◌||◌, ◌<◌, ◌≤◌}
use Rattle.kit.specs.Names.{refl, ap, sym, ◌∙◌, subst, fun_ext, Bool, true, false, cond, List, map, ℕ, suc}
use Rattle.kit.specs.Names.{arith, leb, ltb, length, lt-ltb, le-leb}
use Rattle.definitions.specs.Basics.{is_zero}
use Rattle.definitions.specs.ContractFile.{Name, me_name, final_name, parameter_name, Field, field_at, is_final, contract_in}
use Rattle.definitions.specs.Numbers.{check_number}
use Rattle.definitions.specs.Original.{final_address, place_readers}
use Rattle.definitions.specs.Ledger.{Ledger, plain_number, opened_number, function_of_ledger, last_address, is_before_calls, is_after_done, is_after_failed, is_well_formed, is_plain_zero, fits, all_fit, call_number, ledger_after_call}
use Rattle.definitions.specs.Rewriting.{rewrite_function}
use Rattle.theory_relations.specs.Environment.{Environment}
use Rattle.theory_relations.specs.Standing.{AllStand, readers_of}
use Rattle.theory_typing.proofs.Contents.{readers_as, final_plain, standing_fit}
use Rattle.theory_typing.proofs.Environments.{environment_after}
use Rattle.theory_typing.proofs.WellFormed.{ledger_accepted, ledger_body_accepted, ledger_numbers_typed, ledger_numbers_length, places_stand}
use Rattle.theory_typing.proofs.CallEnvironment.{same_address, call_well_formed, caller_below, function_exists, calls_left, argument_count, argument_typed, call_environment}
use Rattle.theory_simulation.proofs.Held.{form_of, held_fit}
use Rattle.definitions.specs.Owners.{no_links}
use Rattle.theory_demands.proofs.ParameterForms.{parameters_fit, public_parameters_fit}
use Rattle.theory_demands.proofs.HonestCall.{scope_of_call, body_of_call, opened_places, address_of_call, end_of_honest, completes_here, numbers_after, ledger_done, ledger_failed, fields_of_call, honest, ledger_after}

and_true_both : {a b : Bool} → a ≡ true → b ≡ true → (a && b) ≡ true
and_true_both h k = rw (h, k)

or_true_right : (a : Bool) {b : Bool} → b ≡ true → (a || b) ≡ true
or_true_right true h = refl
or_true_right false h = h

or_true_left : {a : Bool} (b : Bool) → a ≡ true → (a || b) ≡ true
or_true_left b h = rw h

module _ (l : Ledger) (function caller : ℕ) (arguments : List ℕ) (clear : call_number l function caller arguments ≡ 0) where
  accepted_file : is_zero (check_number l.file) ≡ true
  accepted_file = ap is_zero (ledger_accepted l (call_well_formed l function caller arguments clear))

  in_limits : (ltb 0 (suc l.call) && leb (suc l.call) 65535 && ltb function (length (contract_in l.file).functions) && leb caller 15) ≡ true
  in_limits =
      and_true_both
      (and_true_both (and_true_both (lt-ltb 0 (suc l.call) (omega arith)) (le-leb (suc l.call) 65535 (calls_left l function caller arguments clear)))
      (lt-ltb function (length (contract_in l.file).functions) (function_exists l function caller arguments clear)))
      (le-leb caller 15 (below_sixteen (caller_below l function caller arguments clear)))
    where
      below_sixteen : caller < 16 → caller ≤ 15
      below_sixteen h = omega arith

  -- After a failed call the places are the old ones.
  pub failed_well_formed : is_well_formed (ledger_failed l function caller arguments) ≡ true
  unfolding is_well_formed all_fit
  failed_well_formed =
      let ps = (function_of_ledger l function).parameters in
      let failed : is_after_failed (ledger_failed l function caller arguments) ≡ true =
      and_true_both (public_parameters_fit caller (suc l.call) 0 ps arguments (argument_count l function caller arguments clear) (argument_typed l function caller arguments clear)) refl in
      let well = call_well_formed l function caller arguments clear in
      and_true_both
      (and_true_both accepted_file
      (or_true_right (is_before_calls (ledger_failed l function caller arguments)) (and_true_both in_limits (or_true_right (is_after_done (ledger_failed l function caller arguments)) failed))))
      (standing_fit (contract_in l.file).fields (fields_of_call l function caller arguments clear) l.places (map opened_number l.places) (places_stand l well) (ledger_numbers_length l well)
      (ledger_numbers_typed l well))

  module _ (is_complete : completes_here l function caller arguments ≡ true) where
    abbrev fields_here : List Field
    fields_here = (contract_in l.file).fields

    pub environment_done : Environment (scope_of_call l function caller arguments) (address_of_call l function caller arguments) arguments (numbers_after l function caller arguments)
    environment_done =
        let body = ledger_body_accepted l (call_well_formed l function caller arguments clear) function in
        environment_after (scope_of_call l function caller arguments) (address_of_call l function caller arguments) arguments (opened_places l function caller arguments)
        (call_environment l function caller arguments clear) no_links (body_of_call l function caller arguments) body.faultless body.constants

    -- The finals hold what they held, so the readers are the same.
    pub readers_done : readers_of (address_of_call l function caller arguments) fields_here ≡ place_readers fields_here (numbers_after l function caller arguments)
    readers_done =
        readers_as fields_here (fields_of_call l function caller arguments clear) (λ g. address_of_call l function caller arguments (final_name g))
        (final_address fields_here (numbers_after l function caller arguments)) (λ g final. sym (environment_done.finals g final))

    pub stand_done : AllStand (place_readers fields_here (numbers_after l function caller arguments)) (end_of_honest l function caller arguments).places (numbers_after l function caller arguments)
    stand_done =
        subst (λ readers. AllStand readers (end_of_honest l function caller arguments).places (numbers_after l function caller arguments)) readers_done
        ((honest l function caller arguments clear).places is_complete)

    -- The names have the addresses that they had in the call.
    pub address_done : last_address (ledger_done l function caller arguments) ≡ address_of_call l function caller arguments
    address_done = fun_ext each
      where
        final_done : (g : ℕ) → is_final (field_at fields_here g).shape ≡ true
            → final_address fields_here (map plain_number (end_of_honest l function caller arguments).places) g ≡ address_of_call l function caller arguments (final_name g)
        final_done g final =
            final_plain fields_here (fields_of_call l function caller arguments clear) (numbers_after l function caller arguments) (end_of_honest l function caller arguments).places
            (numbers_after l function caller arguments) stand_done g final
            ∙ environment_done.finals g final

        of_final : (b : Bool) (x y : ℕ) → (b ≡ true → x ≡ cond b y 0) → cond b x 0 ≡ cond b y 0
        of_final true x y h = h refl
        of_final false x y h = refl

        each : (n : Name) → last_address (ledger_done l function caller arguments) n ≡ address_of_call l function caller arguments n
        each me_name = refl
        each (final_name g) =
            of_final (is_final (field_at fields_here g).shape) (final_address fields_here (map plain_number (end_of_honest l function caller arguments).places) g)
            (final_address fields_here (opened_places l function caller arguments) g) (final_done g)
        each (parameter_name k) = same_address l function caller arguments clear (parameter_name k)

    pub done_well_formed : is_well_formed (ledger_done l function caller arguments) ≡ true
    unfolding is_well_formed
    done_well_formed =
        let ps = (function_of_ledger l function).parameters in
        let variables =
        subst
        (λ address. all_fit (λ form c. is_plain_zero c || fits form c)
        (map (form_of (scope_of_call l function caller arguments) address) (rewrite_function fields_here (function_of_ledger l function)).variables)
        (end_of_honest l function caller arguments).variables
        ≡ true)
        (sym address_done) (held_fit ((honest l function caller arguments clear).variables is_complete)) in
        let done : is_after_done (ledger_done l function caller arguments) ≡ true =
        and_true_both (parameters_fit caller (suc l.call) 0 ps arguments (argument_count l function caller arguments clear) (argument_typed l function caller arguments clear)) variables in
        and_true_both
        (and_true_both accepted_file
        (or_true_right (is_before_calls (ledger_done l function caller arguments)) (and_true_both in_limits (or_true_left (is_after_failed (ledger_done l function caller arguments)) done))))
        (standing_fit fields_here (fields_of_call l function caller arguments clear) (end_of_honest l function caller arguments).places (numbers_after l function caller arguments) stand_done
        environment_done.extent environment_done.places)

  pub after_well_formed : is_well_formed (ledger_after_call l function caller arguments) ≡ true
  after_well_formed =
      subst (λ after. is_well_formed after ≡ true) (sym (ledger_after l function caller arguments clear)) (go (completes_here l function caller arguments) refl)
    where
      go : (b : Bool) → completes_here l function caller arguments ≡ b
          → is_well_formed (cond b (ledger_done l function caller arguments) (ledger_failed l function caller arguments)) ≡ true
      go true e = done_well_formed e
      go false e = failed_well_formed
