-- The demands, of the running entries: for every trace of answers that the contracts of `deploy`, `call` and `view` allow.
use Rattle.std.specs.Prelude.{◌≡◌, ◌∷◌}
use Rattle.kit.specs.Names.{refl, ap, sym, ◌∙◌, subst, true, cond, List, [], zip_with, ℕ, zero, suc, get_or, take}
use Rattle.definitions.specs.ContractFile.{contract_in}
use Rattle.definitions.specs.Original.{original_completes}
use Rattle.definitions.specs.View.{Request, Run, run_at_deployment, views_after, disclosures, disclosed_on}
use Rattle.theory_demands.specs.Claims.{run_after_all, PlacesStand}
use Rattle.theory_demands.proofs.Demands.{rewritten_stands_for_original, rewritten_completes_as_original}
use Rattle.theory_demands.proofs.Demands.{ledgers_stay_well_formed, equal_views, told_before_is_disclosed}
use Rattle.ledger_struct.specs.declared.Ledger as code
use Rattle.ledger_struct.specs.Ledgers.{ledger_of}
use Rattle.ledger_struct.specs.Whole.{struct_of}
use Rattle.call.proofs.Answers.{kept}
use Rattle.call.proofs.Whole.{told_after}
use Rattle.theory_entries.specs.Traces.{Trace, Shown, Calls, ended, called, numbers_in, struct_in, numbers, lent, shown, struct_after}
use Rattle.theory_entries.specs.Traces.{original_places, request_at, StructStands, DiscloseAlike, PairedAnswers}
use Rattle.theory_entries.proofs.Following.{shown_of, file_of_run, taken_at, disclosed_at}
use Rattle.theory_entries.proofs.Following.{deployment_accepted, numbers_of_trace, run_of_trace, shown_of_trace}
use Rattle.theory_entries.proofs.Pairs.{pairs_of_answers}

-- A call that is answered with a number above 0 leaves the struct as it was.
refused_in : {party : ℕ} {l : code.Ledger} {rs : List Request} (n : ℕ) (calls : Calls party l rs) → (get_or (numbers_in calls) n 0 ≡ 0 → ⊥)
    → struct_in (suc n) calls ≡ struct_in n calls
unfolding numbers_in struct_in
refused_in n ended refuses = absurd (refuses refl)
refused_in {l = l} zero (called {r = r} answer on look rest) refuses =
    kept l r.function r.caller r.arguments answer on (λ e. refuses (on.number ∙ e))
refused_in (suc n) (called answer on look rest) refuses = refused_in n rest refuses

-- A struct that is told by its ledger is followed by such structs.
told_in : {party : ℕ} {l : code.Ledger} {rs : List Request} (n : ℕ) (calls : Calls party l rs) → l ≡ struct_of (ledger_of l)
    → struct_in n calls ≡ struct_of (ledger_of (struct_in n calls))
unfolding struct_in
told_in zero calls told = told
told_in (suc n) ended told = told
told_in {l = l} (suc n) (called {r = r} answer on look rest) told =
    told_in n rest (told_after l r.function r.caller r.arguments told answer on)

-- The first pairs of two lists are the pairs of their first elements.
take_zip : {A B C : Type 0} (f : A → B → C) (n : ℕ) (xs : List A) (ys : List B)
    → take n (zip_with f xs ys) ≡ zip_with f (take n xs) (take n ys)
unfolding zip_with
take_zip f zero xs ys = refl
take_zip f (suc n) [] ys = refl
take_zip f (suc n) (x ∷ xs) [] = refl
take_zip f (suc n) (x ∷ xs) (y ∷ ys) = ap (λ zs. f x y ∷ zs) (take_zip f n xs ys)

module _ {party : ℕ} {file addresses : List ℕ} {requests : List Request} (trace : Trace party file addresses requests) where
  abbrev start : Run
  start = run_at_deployment file addresses

  -- Demand 3 speaks of views; of the struct itself: after deployment and after each call every part of it is told by its ledger, so that no
  -- argument, no variable and no byte of a file lies behind a count.
  pub entries_leave_nothing_behind : (n : ℕ) → struct_after trace n ≡ struct_of (ledger_of (struct_after trace n))
  entries_leave_nothing_behind n =
      told_in n trace.calls (trace.deploys.whole ∙ ap struct_of (sym trace.deploys.ledger))

  -- Demand 2: "every place then stands for the same value": after deployment, where n is 0, and after each call, whatever the entries
  -- answered.
  pub entries_stand_for_original : (n : ℕ) → StructStands (contract_in file) (struct_after trace n) (original_places trace n)
  unfolding ledger_of
  entries_stand_for_original n =
      let run = run_of_trace trace n in
      let all_stand = rewritten_stands_for_original file addresses (deployment_accepted trace) (take n requests) in
      let stands = subst PlacesStand (sym run) all_stand in
      subst (λ (f : List ℕ). StructStands (contract_in f) (struct_after trace n) (original_places trace n))
      (ap (λ (r : Run). r.ledger.file) run ∙ file_of_run file addresses (take n requests))
      (record { extent = stands.extent; each = λ p inside. stands.each p })

  -- Demand 2: "the rewritten contract completes exactly the calls that the original completes": a call that `call` answers with 0 is done
  -- in the struct handed back where the original completes, and failed elsewhere.
  pub entries_complete_as_original : (n : ℕ) → get_or (numbers trace) n 18 ≡ 0
      → (struct_after trace (suc n)).outcome
      ≡ cond (original_completes (contract_in file) (original_places trace n)
      (request_at requests n).function (request_at requests n).caller (request_at requests n).arguments) 0 1
  unfolding ledger_of
  entries_complete_as_original n zero_number =
      let r = request_at requests n in
      let at = taken_at start requests n (ap (λ (ns : List ℕ). get_or ns n 18) (sym (numbers_of_trace trace)) ∙ zero_number) in
      let file_is = file_of_run file addresses (take n requests) in
      let original_is = ap (λ (run : Run). run.original) (run_of_trace trace n) in
      ap (λ (run : Run). run.ledger.outcome) (run_of_trace trace (suc n) ∙ at.after)
      ∙ (rewritten_completes_as_original file addresses (deployment_accepted trace) (take n requests) r at.taken).outcome
      ∙ (λ i. cond (original_completes (contract_in (file_is i)) (sym original_is i) r.function r.caller r.arguments) 0 1)

  -- Demand 1: "a refusal .. changes no ledger": a call that `call` answers with another number hands back the very struct that it was
  -- given.
  pub refused_calls_change_nothing : (n : ℕ) → (get_or (numbers trace) n 0 ≡ 0 → ⊥) → struct_after trace (suc n) ≡ struct_after trace n
  refused_calls_change_nothing n = refused_in n trace.calls

  -- What is told of the next call on the struct is what demand 3 counts of it: "Each reveal to all or to the party's address, once worked
  -- out, adds its value to what the call discloses to the party, up to a failure."
  pub told_before_counts : (n : ℕ) → get_or (numbers trace) n 18 ≡ 0
      → disclosed_on (ledger_of (struct_after trace n))
      (request_at requests n).function (request_at requests n).caller (request_at requests n).arguments party
      ≡ get_or (disclosures party start requests) n []
  told_before_counts n zero_number =
      let r = request_at requests n in
      let number = ap (λ (ns : List ℕ). get_or ns n 18) (sym (numbers_of_trace trace)) ∙ zero_number in
      let taken = (taken_at start requests n number).taken in
      ap (λ (run : Run). disclosed_on run.ledger r.function r.caller r.arguments party) (run_of_trace trace n)
      ∙ told_before_is_disclosed file addresses (deployment_accepted trace) (take n requests) r party taken
      ∙ disclosed_at party start requests n number

  -- What the first looks show comes of the views and of the lent memory, since no ledger of the trace is ill formed.
  first_looks : (n : ℕ)
      → take n (shown trace) ≡ zip_with (shown_of true party) (take n (views_after party start requests)) (take n (lent trace))
  first_looks n =
      ap (λ (looks : List Shown). take n looks)
      (shown_of_trace trace (λ k. ledgers_stay_well_formed file addresses (deployment_accepted trace) (take k requests)))
      ∙ take_zip (shown_of true party) n (views_after party start requests) (lent trace)

-- Demand 3: "the party's view by document 01 is the same, to the byte, after deployment and after each call before the first, if any, in
-- which a reveal to that party or to all discloses different values." Of two traces of one party from the same file and addresses, paired
-- by their answers, with the same memory lent at each look: where the first n calls disclose the same, the first n + 1 looks show the same
-- number, the same length and the same lent memory, to the byte. A look in too short a room shows nothing in both.
pub equal_looks : {party : ℕ} {file addresses : List ℕ} {requests requests' : List Request}
    (trace : Trace party file addresses requests) (trace' : Trace party file addresses requests')
    → PairedAnswers party (contract_in file) requests (numbers trace) requests' (numbers trace')
    → lent trace ≡ lent trace'
    → (n : ℕ) → DiscloseAlike party n (run_at_deployment file addresses) requests requests'
    → take (suc n) (shown trace) ≡ take (suc n) (shown trace')
unfolding run_after_all
equal_looks {party} {file} {addresses} {requests} {requests'} trace trace' paired memory n disclosed =
    let begin = run_at_deployment file addresses in
    let same = file_of_run file addresses [] in
    let pairs = pairs_of_answers file paired begin begin same (numbers_of_trace trace) (numbers_of_trace trace') in
    let views = equal_views file addresses (deployment_accepted trace) party requests requests' pairs n disclosed in
    first_looks trace (suc n)
    ∙ (λ i. zip_with (shown_of true party) (views i) (take (suc n) (memory i)))
    ∙ sym (first_looks trace' (suc n))
