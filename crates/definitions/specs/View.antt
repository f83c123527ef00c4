-- 01, Runs and views: what a party sees, as items and as bytes; number 21; what a call would disclose to a party;
-- whole lists of calls beside the original, and when two are alike for a party.
use Rattle.std.specs.Prelude.{◌||◌, ◌∷◌, ◌++◌, ◌%◌, ◌/◌, ◌≡◌}
use Rattle.definitions.specs.Basics.{cond, not, List, [], map, ℕ, eqb, ltb, length, drop, flat_map, two_bytes}
use Rattle.definitions.specs.Basics.{first_that_holds, Bool, true, false, get_or, is_zero}
use Rattle.definitions.specs.Numbers.{or_else}
use Rattle.definitions.specs.Ledger.{Content, plain, cell, Ledger, opened_number, is_well_formed, deployed, call_number, ledger_after_call}
use Rattle.definitions.specs.ContractFile.{Contract, function_at, parameter_at, contract_in}
use Rattle.definitions.specs.Original.{deployed_numbers, original_after, original_discloses}

-- "An item is mark, owner (an address), serial (2 + 2), value (4)."
pub record Item : Type 0 where
  pub mark : ℕ
  pub owner : ℕ
  pub call : ℕ
  pub index : ℕ
  pub value : ℕ

-- "Mark 0 plain has zero owner and serial; 1 opaque has value 0; 2 is a cell of the viewing party."
unfoldable pub item_for : ℕ → Content → Item
item_for party (plain v) = record { mark = 0; owner = 0; call = 0; index = 0; value = v }
item_for party (cell c) = record {
  mark = cond (eqb c.owner party) 2 1;
  owner = c.owner;
  call = c.call;
  index = c.index;
  value = cond (eqb c.owner party) c.value 0;
}

-- "then items: parameters, variables, places in field order"
unfoldable pub items_for : ℕ → Ledger → List Item
items_for party l = map (item_for party) (l.parameters ++ l.variables ++ l.places)

unfoldable pub item_bytes : Item → List ℕ
item_bytes item =
    let v = item.value in
    item.mark ∷ item.owner
    ∷ two_bytes item.call
    ++ two_bytes item.index
    ++ (v % 256 ∷ v / 256 % 256 ∷ v / 65536 % 256 ∷ v / 16777216 % 256 ∷ [])

-- "A view is call (2 bytes), function, caller, outcome (0 done, 1 failed), all zero before any call, when only places follow"
unfoldable pub view_bytes : ℕ → Ledger → List ℕ
view_bytes party l =
    two_bytes l.call
    ++ (l.function ∷ l.caller ∷ l.outcome ∷ flat_map item_bytes (items_for party l))

-- "21. A view's ledger isn't well formed, its party is above 15, or its output is too short."
unfoldable pub view_number : ℕ → Ledger → ℕ → ℕ
view_number party l room =
    first_that_holds 21 ((not (is_well_formed l)
    || ltb 15 party
    || ltb room (length (view_bytes party l))) ∷ [])

unfoldable pub view_length : ℕ → Ledger → ℕ → ℕ
view_length party l room = cond (eqb (view_number party l room) 0) (length (view_bytes party l)) 0

unfoldable pub output_after_view : ℕ → Ledger → List ℕ → List ℕ
output_after_view party l out =
    cond (eqb (view_number party l (length out)) 0)
    (view_bytes party l ++ drop (length (view_bytes party l)) out)
    out

-- What a call on a ledger would disclose to a party, told before the call is made: the original works on the places opened.
-- "Each reveal to all or to the party's address, once worked out, adds its value to what the call discloses to the party, up to a failure."
module _ (l : Ledger) (function caller : ℕ) (arguments : List ℕ) (party : ℕ) where
  unfoldable pub disclosed_on : List ℕ
  disclosed_on = original_discloses (contract_in l.file) (map opened_number l.places) function caller arguments party

  -- The call's own number, 18 to 20; then 21 as for a view: "its party is above 15, or its output is too short". The room is in values.
  unfoldable pub disclosed_number : ℕ → ℕ
  disclosed_number room =
      or_else
      (call_number l function caller arguments)
      (first_that_holds 21 ((ltb 15 party || ltb room (length disclosed_on)) ∷ []))

  unfoldable pub disclosed_length : ℕ → ℕ
  disclosed_length room = cond (eqb (disclosed_number room) 0) (length disclosed_on) 0

  unfoldable pub output_after_disclosing : List ℕ → List ℕ
  output_after_disclosing out =
      cond (eqb (disclosed_number (length out)) 0)
      (disclosed_on ++ drop (length disclosed_on) out)
      out

-- A call as it is asked for; it may be refused.
pub record Request : Type 0 where
  pub function : ℕ
  pub caller : ℕ
  pub arguments : List ℕ

-- A ledger, and the places of the original that is "fed with its run's calls alone".
pub record Run : Type 0 where
  pub ledger : Ledger
  pub original : List ℕ

-- "Both start from the same accepted deployment request."
unfoldable pub run_at_deployment : List ℕ → List ℕ → Run
run_at_deployment file addresses = record {
  ledger = deployed file addresses;
  original = deployed_numbers (contract_in file).fields addresses;
}

unfoldable pub is_taken : Run → Request → Bool
is_taken run r = is_zero (call_number run.ledger r.function r.caller r.arguments)

-- "A call gets the ledger that the one before returned, or left when refused."; "refused calls pass it by"
unfoldable pub run_after : Run → Request → Run
run_after run r =
    let original = original_after (contract_in run.ledger.file) run.original r.function r.caller r.arguments in
    record {
      ledger = ledger_after_call run.ledger r.function r.caller r.arguments;
      original = cond (is_taken run r) original run.original;
    }

-- What the call discloses to the party.
unfoldable pub disclosed_in : ℕ → Run → Request → List ℕ
disclosed_in party run r =
    cond (is_taken run r)
    (original_discloses (contract_in run.ledger.file) run.original r.function r.caller r.arguments party)
    []

-- The party's views: of the ledger that the run begins with, at deployment the deployed one, and after each call of a list.
unfoldable pub views_after : ℕ → Run → List Request → List (List ℕ)
views_after party run [] = view_bytes party run.ledger ∷ []
views_after party run (r ∷ rs) =
    view_bytes party run.ledger
    ∷ views_after party (run_after run r) rs

-- What each call of a list discloses to the party.
unfoldable pub disclosures : ℕ → Run → List Request → List (List ℕ)
disclosures party run [] = []
disclosures party run (r ∷ rs) =
    disclosed_in party run r
    ∷ disclosures party (run_after run r) rs

-- "alike for the party, an address: same function, caller, arguments for public parameters and, if the party is the caller,
-- for private ones. Other arguments are free."
pub record AlikeFor (party : ℕ) (contract : Contract) (r r' : Request) : Type 0 where
  pub function : r.function ≡ r'.function
  pub caller : r.caller ≡ r'.caller
  pub arguments : (k : ℕ)
      → not (parameter_at (function_at contract.functions r.function).parameters k).private
      || eqb r.caller party ≡ true
      → get_or r.arguments k 0 ≡ get_or r'.arguments k 0

-- "Pair by pair, both calls are refused or both are taken (done or failed) and alike for the party"
pub data Paired (party : ℕ) : Run → Run → List Request → List Request → Type 0 where
  finished : {run run' : Run} → Paired party run run' [] []
  both_refused : {run run' : Run} {r r' : Request} {rs rs' : List Request}
      → is_taken run r ≡ false
      → is_taken run' r' ≡ false
      → Paired party run run' rs rs'
      → Paired party run run' (r ∷ rs) (r' ∷ rs')
  both_taken : {run run' : Run} {r r' : Request} {rs rs' : List Request}
      → is_taken run r ≡ true
      → is_taken run' r' ≡ true
      → AlikeFor party (contract_in run.ledger.file) r r'
      → Paired party (run_after run r) (run_after run' r') rs rs'
      → Paired party run run' (r ∷ rs) (r' ∷ rs')
