-- A trace of the entries follows the run of the definitions, call by call: its numbers, its structs, and what its looks show.
use Rattle.std.specs.Prelude.{◌≡◌, ◌||◌, ◌∷◌, ◌++◌}
use Rattle.kit.specs.Names.{refl, ap, ap₂, sym, ◌∙◌, Bool, true, cond, not, false≢true, List, [], zip_with, ℕ, zero}
use Rattle.kit.specs.Names.{suc, eqb, ltb, length, take, drop, get_or}
use Rattle.definitions.specs.Basics.{is_zero, first_that_holds}
use Rattle.definitions.specs.ContractFile.{contract_in}
use Rattle.definitions.specs.Original.{deployed_numbers, original_after}
use Rattle.definitions.specs.Ledger.{Ledger, is_well_formed, deploy_number, deployed}
use Rattle.definitions.specs.View.{view_bytes, view_number, view_length, output_after_view, views_after}
use Rattle.definitions.specs.View.{Request, Run, run_at_deployment, is_taken, run_after, disclosed_in, disclosures}
use Rattle.theory_demands.specs.Claims.{run_after_all, call_numbers}
use Rattle.theory_demands.proofs.Faithful.{same_file_law}
use Rattle.ledger_struct.specs.declared.Ledger as code
use Rattle.ledger_struct.specs.Ledgers.{ledger_of}
use Rattle.deploy.specs.Deployments.{nothing_deployed}
use Rattle.call.specs.declared.Called.{Called}
use Rattle.call.specs.Calls.{CalledOn}
use Rattle.theory_entries.specs.Traces.{Looked, Calls, ended, called, Trace, Shown, shown_by, original_next, numbers_in, lent_in, shown_in}
use Rattle.theory_entries.specs.Traces.{struct_in, original_in, numbers, lent, shown, struct_after, original_places, request_at}

-- The run of the definitions that a ledger struct and the original's places are.
abbrev pub run_of : code.Ledger → List ℕ → Run
run_of l original = record { ledger = ledger_of l; original = original }

-- What a look shows, by what it would be to see: of a ledger's own test, who looks, the view's bytes and the lent memory.
abbrev pub shown_of : Bool → ℕ → List ℕ → List ℕ → Shown
shown_of well_formed party bytes before =
    let number = first_that_holds 21 ((not well_formed || ltb 15 party || ltb (length before) (length bytes)) ∷ []) in
    record {
      number = number;
      length = cond (eqb number 0) (length bytes) 0;
      memory = cond (eqb number 0) (bytes ++ drop (length bytes) before) before;
    }

pub look_shows : {party : ℕ} {l : code.Ledger} (look : Looked party l) → is_well_formed (ledger_of l) ≡ true
    → shown_by look ≡ shown_of true party (view_bytes party (ledger_of l)) look.before
unfolding view_number view_length output_after_view
look_shows {party} {l} look h =
    (λ i. record { number = look.viewed.number i; length = look.viewed.long i; memory = look.viewed.output i })
    ∙ ap (λ b. shown_of b party (view_bytes party (ledger_of l)) look.before) h

module _ (file : List ℕ) where
  -- The run after a call is that of the struct handed back and of the original, fed as the answer says.
  next_run : {l : code.Ledger} (original : List ℕ) (r : Request) (answer : Called) → (ledger_of l).file ≡ file
      → CalledOn l r.function r.caller r.arguments answer
      → run_of answer.ledger (original_next (contract_in file) original r answer) ≡ run_after (run_of l original) r
  unfolding run_after is_taken
  next_run original r answer same on =
      let fed : List ℕ → List ℕ = λ f. original_after (contract_in f) original r.function r.caller r.arguments in
      λ i. record { ledger = on.ledger i; original = cond (is_zero (on.number i)) (fed (sym same i)) original }

  next_file : {l : code.Ledger} (r : Request) (answer : Called) → (ledger_of l).file ≡ file
      → CalledOn l r.function r.caller r.arguments answer → (ledger_of answer.ledger).file ≡ file
  unfolding run_after
  next_file {l} r answer same on = ap (λ (m : Ledger). m.file) on.ledger ∙ same_file_law (run_of l []) r ∙ same

  numbers_follow : {party : ℕ} {l : code.Ledger} {rs : List Request} (original : List ℕ) → (ledger_of l).file ≡ file
      → (calls : Calls party l rs) → numbers_in calls ≡ call_numbers (run_of l original) rs
  unfolding numbers_in call_numbers
  numbers_follow original same ended = refl
  numbers_follow original same (called {l} {r} {rs} answer on look rest) =
      ap₂ (λ (n : ℕ) (ns : List ℕ). n ∷ ns) on.number
      (numbers_follow (original_next (contract_in file) original r answer) (next_file r answer same on) rest
      ∙ ap (λ (run : Run). call_numbers run rs) (next_run original r answer same on))

  runs_follow : {party : ℕ} {l : code.Ledger} {rs : List Request} (original : List ℕ) → (ledger_of l).file ≡ file
      → (n : ℕ) (calls : Calls party l rs)
      → run_of (struct_in n calls) (original_in (contract_in file) original n calls) ≡ run_after_all (run_of l original) (take n rs)
  unfolding struct_in original_in run_after_all
  runs_follow original same zero calls = refl
  runs_follow original same (suc n) ended = refl
  runs_follow original same (suc n) (called {l} {r} {rs} answer on look rest) =
      runs_follow (original_next (contract_in file) original r answer) (next_file r answer same on) n rest
      ∙ ap (λ (run : Run). run_after_all run (take n rs)) (next_run original r answer same on)

  -- On ledgers that pass number 18's test a look shows what the view's bytes and the lent memory make it show.
  shown_follow : {party : ℕ} {l : code.Ledger} {rs : List Request} (original : List ℕ) → (ledger_of l).file ≡ file
      → ((n : ℕ) → is_well_formed (run_after_all (run_of l original) (take n rs)).ledger ≡ true)
      → (look : Looked party l) (calls : Calls party l rs)
      → shown_by look ∷ shown_in calls ≡ zip_with (shown_of true party) (views_after party (run_of l original) rs) (look.before ∷ lent_in calls)
  unfolding shown_in lent_in views_after run_after_all zip_with
  shown_follow original same h look ended = ap (λ (s : Shown). s ∷ []) (look_shows look (h 0))
  shown_follow {party} original same h first (called {l} {r} {rs} answer on look rest) =
      let next = next_run original r answer same on in
      let run = run_of answer.ledger (original_next (contract_in file) original r answer) in
      let later : (n : ℕ) → is_well_formed (run_after_all run (take n rs)).ledger ≡ true =
      λ n. ap (λ (run : Run). is_well_formed (run_after_all run (take n rs)).ledger) next ∙ h (suc n) in
      ap₂ (λ (s : Shown) (ss : List Shown). s ∷ ss) (look_shows first (h 0))
      (shown_follow (original_next (contract_in file) original r answer) (next_file r answer same on) later look rest
      ∙ ap (λ (run : Run). zip_with (shown_of true party) (views_after party run rs) (look.before ∷ lent_in rest)) next)

-- Every call keeps the contract's file, so the file of every run from a deployment is the deployed one.
file_after_all : (run : Run) (rs : List Request) → (run_after_all run rs).ledger.file ≡ run.ledger.file
unfolding run_after_all
file_after_all run [] = refl
file_after_all run (r ∷ rs) = file_after_all (run_after run r) rs ∙ same_file_law run r

pub file_of_run : (file addresses : List ℕ) (rs : List Request) → (run_after_all (run_at_deployment file addresses) rs).ledger.file ≡ file
unfolding run_at_deployment deployed
file_of_run file addresses rs = file_after_all (run_at_deployment file addresses) rs

-- The n-th call of a list, where its number is 0: it is taken, and the run after n + 1 calls is the run after it.
pub record TakenAt (run : Run) (rs : List Request) (n : ℕ) : Type 0 where
  pub taken : is_taken (run_after_all run (take n rs)) (request_at rs n) ≡ true
  pub after : run_after_all run (take (suc n) rs) ≡ run_after (run_after_all run (take n rs)) (request_at rs n)

pub taken_at : (run : Run) (rs : List Request) (n : ℕ) → get_or (call_numbers run rs) n 18 ≡ 0 → TakenAt run rs n
unfolding call_numbers run_after_all is_taken
taken_at run [] n e = absurd (false≢true (ap is_zero e))
taken_at run (r ∷ rs) zero e = record { taken = ap is_zero e; after = refl }
taken_at run (r ∷ rs) (suc n) e =
    let h = taken_at (run_after run r) rs n e in
    record { taken = h.taken; after = h.after }

-- What such a call discloses is the n-th of what the list's calls disclose.
pub disclosed_at : (party : ℕ) (run : Run) (rs : List Request) (n : ℕ) → get_or (call_numbers run rs) n 18 ≡ 0
    → disclosed_in party (run_after_all run (take n rs)) (request_at rs n) ≡ get_or (disclosures party run rs) n []
unfolding call_numbers run_after_all disclosures
disclosed_at party run [] n e = absurd (false≢true (ap is_zero e))
disclosed_at party run (r ∷ rs) zero e = refl
disclosed_at party run (r ∷ rs) (suc n) e = disclosed_at party (run_after run r) rs n e

-- A whole trace beside the run from its deployment.
module _ {party : ℕ} {file addresses : List ℕ} {requests : List Request} (trace : Trace party file addresses requests) where
  abbrev start : Run
  start = run_at_deployment file addresses

  pub deployment_accepted : deploy_number file addresses ≡ 0
  deployment_accepted = sym trace.deploys.number ∙ trace.accepted

  deployed_ledger : ledger_of trace.deployment.ledger ≡ deployed file addresses
  deployed_ledger =
      trace.deploys.ledger ∙ ap (λ n. cond (is_zero n) (deployed file addresses) nothing_deployed) trace.accepted

  deployed_file : (ledger_of trace.deployment.ledger).file ≡ file
  unfolding deployed
  deployed_file = ap (λ (l : Ledger). l.file) deployed_ledger

  deployed_run : run_of trace.deployment.ledger (deployed_numbers (contract_in file).fields addresses) ≡ start
  unfolding run_at_deployment
  deployed_run = λ i. record { ledger = deployed_ledger i; original = deployed_numbers (contract_in file).fields addresses }

  pub numbers_of_trace : numbers trace ≡ call_numbers start requests
  numbers_of_trace = numbers_follow file _ deployed_file trace.calls ∙ ap (λ (run : Run). call_numbers run requests) deployed_run

  pub run_of_trace : (n : ℕ) → run_of (struct_after trace n) (original_places trace n) ≡ run_after_all start (take n requests)
  run_of_trace n = runs_follow file _ deployed_file n trace.calls ∙ ap (λ (run : Run). run_after_all run (take n requests)) deployed_run

  pub shown_of_trace : ((n : ℕ) → is_well_formed (run_after_all start (take n requests)).ledger ≡ true)
      → shown trace ≡ zip_with (shown_of true party) (views_after party start requests) (lent trace)
  shown_of_trace h =
      shown_follow file _ deployed_file
      (λ n. ap (λ (run : Run). is_well_formed (run_after_all run (take n requests)).ledger) deployed_run ∙ h n)
      trace.look trace.calls
      ∙ ap (λ (run : Run). zip_with (shown_of true party) (views_after party run requests) (lent trace)) deployed_run
