-- 01, Runs and views, and demands 2 and 3: what the entries `deploy`, `call` and `view` may answer one after the other, by their contracts;
-- what is read off such a trace; and when two traces are paired for a party.
use Rattle.std.specs.Prelude.{◌≡◌, ◌∷◌, ◌<◌}
use Rattle.kit.specs.Names.{cond, List, [], ℕ, zero, suc, length, get_or, take}
use Rattle.definitions.specs.Basics.{is_zero}
use Rattle.definitions.specs.ContractFile.{Contract, contract_in}
use Rattle.definitions.specs.Original.{anyone, place_readers, deployed_numbers, original_after}
use Rattle.definitions.specs.Ledger.{Content, content_at}
use Rattle.definitions.specs.View.{Request, Run, AlikeFor, disclosures}
use Rattle.theory_relations.specs.Standing.{Stands}
use Rattle.ledger_struct.specs.declared.Ledger as code
use Rattle.ledger_struct.specs.Ledgers.{contents_in, ledger_of}
use Rattle.deploy.specs.declared.Deployment.{Deployment}
use Rattle.deploy.specs.Deployments.{Deployed}
use Rattle.call.specs.declared.Called.{Called}
use Rattle.call.specs.Calls.{CalledOn}
use Rattle.memory_answer.specs.declared.Answer.{Answer}
use Rattle.view_bytes.specs.Views.{Viewed}

-- A party's look at a ledger struct by `view`: the lent memory before and after it, and the answer.
pub record Looked (party : ℕ) (l : code.Ledger) : Type 0 where
  pub before : List ℕ
  pub after : List ℕ
  pub answer : Answer
  pub viewed : Viewed party (ledger_of l) before after answer

-- Calls by `call` from a ledger struct on: "A call gets the ledger that the one before returned, or left when refused." The party
-- looks after each of them.
pub data Calls (party : ℕ) : code.Ledger → List Request → Type 0 where
  ended : {l : code.Ledger} → Calls party l []
  called : {l : code.Ledger} {r : Request} {rs : List Request} (answer : Called)
      → CalledOn l r.function r.caller r.arguments answer
      → Looked party answer.ledger
      → Calls party answer.ledger rs
      → Calls party l (r ∷ rs)

-- An accepted deployment by `deploy`, the party's look after it, and the calls.
pub record Trace (party : ℕ) (file addresses : List ℕ) (requests : List Request) : Type 0 where
  pub deployment : Deployment
  pub deploys : Deployed file addresses deployment
  pub accepted : deployment.number ≡ 0
  pub look : Looked party deployment.ledger
  pub calls : Calls party deployment.ledger requests

-- What a look shows, a refused one too: number, length and the whole lent memory afterwards.
pub record Shown : Type 0 where
  pub number : ℕ
  pub length : ℕ
  pub memory : List ℕ

abbrev pub shown_by : {party : ℕ} {l : code.Ledger} → Looked party l → Shown
shown_by look = record { number = look.answer.number; length = look.answer.length; memory = look.after }

-- The original's places after a call: it is fed with the calls whose answer's number is 0, and "refused calls pass it by".
abbrev pub original_next : Contract → List ℕ → Request → Called → List ℕ
original_next contract original r answer =
    cond (is_zero answer.number) (original_after contract original r.function r.caller r.arguments) original

module _ {party : ℕ} where
  unfoldable pub numbers_in : {l : code.Ledger} {rs : List Request} → Calls party l rs → List ℕ
  numbers_in ended = []
  numbers_in (called answer on look rest) = answer.number ∷ numbers_in rest

  unfoldable pub lent_in : {l : code.Ledger} {rs : List Request} → Calls party l rs → List (List ℕ)
  lent_in ended = []
  lent_in (called answer on look rest) = look.before ∷ lent_in rest

  unfoldable pub shown_in : {l : code.Ledger} {rs : List Request} → Calls party l rs → List Shown
  shown_in ended = []
  shown_in (called answer on look rest) = shown_by look ∷ shown_in rest

  -- The ledger struct after the first n calls, and the original's places then; after all calls where there are fewer.
  unfoldable pub struct_in : {l : code.Ledger} {rs : List Request} → ℕ → Calls party l rs → code.Ledger
  struct_in {l} zero calls = l
  struct_in {l} (suc n) ended = l
  struct_in (suc n) (called answer on look rest) = struct_in n rest

  unfoldable pub original_in : {l : code.Ledger} {rs : List Request} → Contract → List ℕ → ℕ → Calls party l rs → List ℕ
  original_in contract original zero calls = original
  original_in contract original (suc n) ended = original
  original_in contract original (suc n) (called {r = r} answer on look rest) =
      original_in contract (original_next contract original r answer) n rest

-- The same of a whole trace. Looks count from the one after deployment, calls from the first.
module _ {party : ℕ} {file addresses : List ℕ} {requests : List Request} (trace : Trace party file addresses requests) where
  abbrev pub numbers : List ℕ
  numbers = numbers_in trace.calls

  abbrev pub lent : List (List ℕ)
  lent = trace.look.before ∷ lent_in trace.calls

  abbrev pub shown : List Shown
  shown = shown_by trace.look ∷ shown_in trace.calls

  abbrev pub struct_after : ℕ → code.Ledger
  struct_after n = struct_in n trace.calls

  abbrev pub original_places : ℕ → List ℕ
  original_places n = original_in (contract_in file) (deployed_numbers (contract_in file).fields addresses) n trace.calls

-- The n-th request of a list, counted from 0; past its end stands a call with no arguments.
abbrev pub request_at : List Request → ℕ → Request
request_at requests n = get_or requests n (record { function = 0; caller = 0; arguments = [] })

-- The contents of a struct's own places, as many as it counts.
abbrev pub places_in : code.Ledger → List Content
places_in l = contents_in l.place_count l.places

-- "every place then stands for the same value": each of the struct's own places, of which it counts as many as the original has.
pub record StructStands (contract : Contract) (l : code.Ledger) (original : List ℕ) : Type 0 where
  pub extent : length (places_in l) ≡ length original
  pub each : (p : ℕ) → p < length original
      → Stands (get_or (place_readers contract.fields original) p anyone) (content_at (places_in l) p) (get_or original p 0)

-- "before the first, if any, in which a reveal to that party or to all discloses different values": the first n calls disclose the same.
abbrev pub DiscloseAlike : ℕ → ℕ → Run → List Request → List Request → Type 0
DiscloseAlike party n start requests requests' = take n (disclosures party start requests) ≡ take n (disclosures party start requests')

-- "At each position of the lists both calls are refused, or neither is and they have the same function, caller, public arguments and,
-- if the party calls, private arguments.": by the numbers that `call` answered.
pub data PairedAnswers (party : ℕ) (contract : Contract) : List Request → List ℕ → List Request → List ℕ → Type 0 where
  finished : PairedAnswers party contract [] [] [] []
  both_refused : {r r' : Request} {rs rs' : List Request} {number number' : ℕ} {ns ns' : List ℕ}
      → (number ≡ 0 → ⊥)
      → (number' ≡ 0 → ⊥)
      → PairedAnswers party contract rs ns rs' ns'
      → PairedAnswers party contract (r ∷ rs) (number ∷ ns) (r' ∷ rs') (number' ∷ ns')
  both_taken : {r r' : Request} {rs rs' : List Request} {number number' : ℕ} {ns ns' : List ℕ}
      → number ≡ 0
      → number' ≡ 0
      → AlikeFor party contract r r'
      → PairedAnswers party contract rs ns rs' ns'
      → PairedAnswers party contract (r ∷ rs) (number ∷ ns) (r' ∷ rs') (number' ∷ ns')
