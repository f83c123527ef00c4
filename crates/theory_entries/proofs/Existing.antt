-- There is a trace for every accepted deployment and every list of calls: the theorems on the entries are not empty.
use Rattle.std.specs.Prelude.{◌≡◌, ◌∷◌}
use Rattle.kit.specs.Names.{refl, ap, sym, List, [], ℕ, suc, length, replicate}
use Rattle.definitions.specs.Ledger.{deploy_number, deployed, call_number}
use Rattle.definitions.specs.View.{view_number, view_length, output_after_view, Request}
use Rattle.ledger_struct.specs.declared.Ledger as code
use Rattle.ledger_struct.specs.Ledgers.{ledger_of}
use Rattle.ledger_struct.specs.Whole.{struct_of}
use Rattle.ledger_struct.proofs.Meaning.{struct_means}
use Rattle.call.specs.declared.Called.{Called}
use Rattle.call.specs.Calls.{struct_after_call, CalledOn}
use Rattle.call.proofs.Whole.{after_means}
use Rattle.theory_entries.specs.Traces.{Looked, Calls, ended, called, Trace, lent_in, lent}

module _ (party : ℕ) (memory : List ℕ) where
  look_at : (l : code.Ledger) → Looked party l
  look_at l =
      record {
        before = memory;
        after = output_after_view party (ledger_of l) memory;
        answer = record { number = view_number party (ledger_of l) (length memory); length = view_length party (ledger_of l) (length memory) };
        viewed = record { number = refl; long = refl; output = refl };
      }

  -- The answer of `call`, with what its contract says of it.
  answer_to : code.Ledger → Request → Called
  answer_to l r =
      record {
        number = call_number (ledger_of l) r.function r.caller r.arguments;
        ledger = struct_after_call l r.function r.caller r.arguments;
      }

  answered : (l : code.Ledger) (r : Request) → CalledOn l r.function r.caller r.arguments (answer_to l r)
  unfolding answer_to
  answered l r = record { number = refl; ledger = after_means l r.function r.caller r.arguments; whole = refl }

  calls_from : (l : code.Ledger) (requests : List Request) → Calls party l requests
  calls_from l [] = ended
  calls_from l (r ∷ rs) =
      called (answer_to l r) (answered l r) (look_at (answer_to l r).ledger) (calls_from (answer_to l r).ledger rs)

  pub traces_exist : (file addresses : List ℕ) → deploy_number file addresses ≡ 0 → (requests : List Request)
      → Trace party file addresses requests
  traces_exist file addresses clear requests =
      let deployment = struct_of (deployed file addresses) in
      record {
        deployment = record { number = 0; ledger = deployment };
        deploys = record { number = sym clear; ledger = struct_means (deployed file addresses); whole = refl };
        accepted = refl;
        look = look_at deployment;
        calls = calls_from deployment requests;
      }

  -- At each of its looks the memory is lent.
  lent_from : (l : code.Ledger) (requests : List Request) → lent_in (calls_from l requests) ≡ replicate (length requests) memory
  unfolding calls_from look_at lent_in
  lent_from l [] = refl
  lent_from l (r ∷ rs) = ap (λ (more : List (List ℕ)). memory ∷ more) (lent_from (answer_to l r).ledger rs)

  pub lent_there : (file addresses : List ℕ) (clear : deploy_number file addresses ≡ 0) (requests : List Request)
      → lent (traces_exist file addresses clear requests) ≡ replicate (suc (length requests)) memory
  unfolding traces_exist look_at
  lent_there file addresses clear requests =
      ap (λ (more : List (List ℕ)). memory ∷ more) (lent_from (struct_of (deployed file addresses)) requests)
