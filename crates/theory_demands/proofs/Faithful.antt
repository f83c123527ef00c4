-- Demand 2, second half, and the ledger's own test, over whole lists of calls.
use Rattle.std.specs.Prelude.{◌≡◌, ◌∷◌}
use Rattle.kit.specs.Names.{refl, ap, sym, ◌∙◌, subst, Bool, true, false, cond, false≢true, List, [], map, ℕ, eqb-true}
use Rattle.definitions.specs.Basics.{all, is_zero}
use Rattle.definitions.specs.ContractFile.{contract_in}
use Rattle.definitions.specs.Original.{place_readers, original_completes, original_after}
use Rattle.definitions.specs.Ledger.{Ledger, opened_number, constraint_holds, last_address, function_of_ledger, is_well_formed, call_number, call_with, ledger_after_call, deploy_number, deployed, honest_parameters_of, honest_variables_of}
use Rattle.definitions.specs.Rewriting.{rewrite_function}
use Rattle.definitions.specs.View.{Request, Run, run_at_deployment, is_taken, run_after}
use Rattle.theory_relations.specs.Standing.{AllStand}
use Rattle.theory_typing.proofs.Contents.{all_stand_opened}
use Rattle.theory_typing.proofs.Deployment.{deployed_stand, deployed_well_formed}
use Rattle.theory_typing.proofs.WellFormed.{places_stand}
use Rattle.theory_demands.specs.Claims.{run_after_all, PlacesStand, CallFaithful}
use Rattle.theory_demands.proofs.HonestCall.{completes_here, numbers_after, end_of_honest, ledger_done, ledger_failed, opened_places, honest, ledger_after}
use Rattle.theory_demands.proofs.WellFormedAfter.{stand_done, address_done, after_well_formed}
use Rattle.theory_demands.proofs.CallParts.{is_done, after_done, after_failed}

-- A run that is faithful: its ledger is well formed, and its places open to the original's numbers.
pub record FaithfulRun (run : Run) : Type 0 where
  pub well_formed : is_well_formed run.ledger ≡ true
  pub opened : map opened_number run.ledger.places ≡ run.original

pub taken_number : (run : Run) (r : Request) → is_taken run r ≡ true → call_number run.ledger r.function r.caller r.arguments ≡ 0
unfolding is_taken
taken_number run r h = eqb-true (call_number run.ledger r.function r.caller r.arguments) 0 h

-- A refused call changes nothing.
pub refused_run : (run : Run) (r : Request) → is_taken run r ≡ false → run_after run r ≡ run
unfolding run_after is_taken ledger_after_call
refused_run run r h =
    λ i. record {
      ledger =
          cond (h i) (call_with run.ledger r.function r.caller (honest_parameters_of run.ledger r.function r.caller r.arguments)
          (honest_variables_of run.ledger r.function r.caller r.arguments)) run.ledger;
      original = cond (h i) (original_after (contract_in run.ledger.file) run.original r.function r.caller r.arguments) run.original;
    }

-- A call keeps the contract's file.
pub same_file_law : (run : Run) (r : Request) → (run_after run r).ledger.file ≡ run.ledger.file
unfolding run_after ledger_after_call call_with
same_file_law run r =
    go (is_zero (call_number run.ledger r.function r.caller r.arguments))
    (is_done run.ledger r.function r.caller (honest_parameters_of run.ledger r.function r.caller r.arguments)
    (honest_variables_of run.ledger r.function r.caller r.arguments))
  where
    go : (taken done : Bool)
        → (cond taken (cond done (after_done run.ledger r.function r.caller (honest_parameters_of run.ledger r.function r.caller r.arguments) (honest_variables_of run.ledger r.function r.caller r.arguments))
        (after_failed run.ledger r.function r.caller (honest_parameters_of run.ledger r.function r.caller r.arguments) (honest_variables_of run.ledger r.function r.caller r.arguments))) run.ledger).file
        ≡ run.ledger.file
    go true true = refl
    go true false = refl
    go false done = refl

-- A taken call on a ledger, with the original at the opened places.
module _ (l : Ledger) (f c : ℕ) (a : List ℕ) (clear : call_number l f c a ≡ 0) where
  pub opened_after : map opened_number (ledger_after_call l f c a).places ≡ original_after (contract_in l.file) (opened_places l f c a) f c a
  unfolding original_after original_completes
  opened_after =
      ap (λ (after : Ledger). map opened_number after.places) (ledger_after l f c a clear) ∙ go (completes_here l f c a) refl
    where
      go : (b : Bool) → completes_here l f c a ≡ b
          → map opened_number (cond b (ledger_done l f c a) (ledger_failed l f c a)).places ≡ cond b (numbers_after l f c a) (opened_places l f c a)
      go true e = all_stand_opened _ _ _ (stand_done l f c a clear e)
      go false e = refl

  pub outcome_after : (ledger_after_call l f c a).outcome ≡ cond (original_completes (contract_in l.file) (opened_places l f c a) f c a) 0 1
  unfolding original_completes
  outcome_after = ap (λ (after : Ledger). after.outcome) (ledger_after l f c a clear) ∙ go (completes_here l f c a)
    where
      go : (b : Bool) → (cond b (ledger_done l f c a) (ledger_failed l f c a)).outcome ≡ cond b 0 1
      go true = refl
      go false = refl

  abbrev ConstraintsHold : Ledger → Type 0
  ConstraintsHold after =
      all (constraint_holds (last_address after) after.variables) (rewrite_function (contract_in l.file).fields (function_of_ledger after after.function)).constraints ≡ true

  pub constraints_after : (ledger_after_call l f c a).outcome ≡ 0 → ConstraintsHold (ledger_after_call l f c a)
  constraints_after =
      subst (λ after. after.outcome ≡ 0 → ConstraintsHold after) (sym (ledger_after l f c a clear)) (go (completes_here l f c a) refl)
    where
      go : (b : Bool) → completes_here l f c a ≡ b → (cond b (ledger_done l f c a) (ledger_failed l f c a)).outcome ≡ 0
          → ConstraintsHold (cond b (ledger_done l f c a) (ledger_failed l f c a))
      go true e done =
          subst (λ address. all (constraint_holds address (end_of_honest l f c a).variables) (rewrite_function (contract_in l.file).fields (function_of_ledger (ledger_done l f c a) (ledger_done l f c a).function)).constraints ≡ true)
          (sym (address_done l f c a clear e)) ((honest l f c a clear).constraints e)
      go false e done = absurd (one_is_not_zero done)
        where
          one_is_not_zero : ◌≡◌ {A = ℕ} 1 0 → ⊥
          one_is_not_zero h = let z : ◌≡◌ {A = Bool} false true = ap is_zero h in false≢true z

-- Each step of a run keeps it faithful.
pub faithful_at_deployment : (file addresses : List ℕ) → deploy_number file addresses ≡ 0 → FaithfulRun (run_at_deployment file addresses)
unfolding run_at_deployment deployed
faithful_at_deployment file addresses clear =
    record {
      well_formed = deployed_well_formed file addresses clear;
      opened = all_stand_opened _ _ _ (deployed_stand (contract_in file).fields addresses);
    }

pub faithful_after : (run : Run) → FaithfulRun run → (r : Request) → FaithfulRun (run_after run r)
unfolding run_after
faithful_after run h r = go (is_taken run r) refl
  where
    taken_run : is_taken run r ≡ true → FaithfulRun (run_after run r)
    taken_run e =
        let clear = taken_number run r e in
        let after = original_after (contract_in run.ledger.file) run.original r.function r.caller r.arguments in
        record {
          well_formed = after_well_formed run.ledger r.function r.caller r.arguments clear;
          opened =
              opened_after run.ledger r.function r.caller r.arguments clear
              ∙ ap (λ (o : List ℕ). original_after (contract_in run.ledger.file) o r.function r.caller r.arguments) h.opened
              ∙ ap (λ b. cond b after run.original) (sym e);
        }

    go : (b : Bool) → is_taken run r ≡ b → FaithfulRun (run_after run r)
    go true e = taken_run e
    go false e = subst FaithfulRun (sym (refused_run run r e)) h

pub faithful_after_all : (run : Run) → FaithfulRun run → (requests : List Request) → FaithfulRun (run_after_all run requests)
unfolding run_after_all
faithful_after_all run h [] = h
faithful_after_all run h (r ∷ rs) = faithful_after_all (run_after run r) (faithful_after run h r) rs

-- What being faithful says, in the words of the demand.
pub places_of_faithful : (run : Run) → FaithfulRun run → PlacesStand run
places_of_faithful run h =
    subst (λ (o : List ℕ). AllStand (place_readers (contract_in run.ledger.file).fields o) run.ledger.places o) h.opened (places_stand run.ledger h.well_formed)

pub call_of_faithful : (run : Run) → FaithfulRun run → (r : Request) → is_taken run r ≡ true → CallFaithful run r
unfolding run_after
call_of_faithful run h r e =
    let clear = taken_number run r e in
    record {
      outcome =
          outcome_after run.ledger r.function r.caller r.arguments clear
          ∙ ap (λ (o : List ℕ). cond (original_completes (contract_in run.ledger.file) o r.function r.caller r.arguments) 0 1) h.opened;
      constraints = constraints_after run.ledger r.function r.caller r.arguments clear;
    }
