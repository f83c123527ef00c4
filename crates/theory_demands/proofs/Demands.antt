-- The theorems, in the words of the demands: for every accepted deployment and every list of calls from it.
use Rattle.std.specs.Prelude.{◌≡◌}
use Rattle.kit.specs.Names.{refl, true, List, ℕ, suc, take}
use Rattle.definitions.specs.Ledger.{deploy_number, is_well_formed, deployed}
use Rattle.definitions.specs.View.{Request, Run, run_at_deployment, is_taken, views_after, disclosures, disclosed_in, disclosed_on, Paired}
use Rattle.theory_demands.specs.Claims.{run_after_all, PlacesStand, CallFaithful, SerialsUpTo, MadeSerials}
use Rattle.theory_demands.proofs.Faithful.{faithful_at_deployment, faithful_after_all, places_of_faithful, call_of_faithful}
use Rattle.theory_demands.proofs.NewSerials.{serials_at_deployment, serials_after_all, made_serials}
use Rattle.theory_demands.proofs.EqualViews.{views_agree, told_is_disclosed}
use Rattle.theory_secrecy.proofs.AlikeContents.{alike_itself}

module _ (file addresses : List ℕ) where
  -- The run at deployment, and after a list of calls.
  abbrev start : Run
  start = run_at_deployment file addresses

  abbrev after : List Request → Run
  after requests = run_after_all start requests

  -- Demand 2: "Run with honestly made arguments, the rewritten contract completes exactly the calls that the original completes, and every
  -- place then stands for the same value."
  pub rewritten_stands_for_original : deploy_number file addresses ≡ 0 → (requests : List Request) → PlacesStand (after requests)
  rewritten_stands_for_original clear requests =
      places_of_faithful _ (faithful_after_all _ (faithful_at_deployment file addresses clear) requests)

  pub rewritten_completes_as_original : deploy_number file addresses ≡ 0 → (requests : List Request) (next : Request)
      → is_taken (after requests) next ≡ true → CallFaithful (after requests) next
  rewritten_completes_as_original clear requests next taken =
      call_of_faithful _ (faithful_after_all _ (faithful_at_deployment file addresses clear) requests) next taken

  -- The ledger that a deployment or a call returns passes number 18's test of a ledger.
  pub ledgers_stay_well_formed : deploy_number file addresses ≡ 0 → (requests : List Request)
      → is_well_formed (after requests).ledger ≡ true
  ledgers_stay_well_formed clear requests = (faithful_after_all _ (faithful_at_deployment file addresses clear) requests).well_formed

  -- Every cell that a call makes has a serial that no earlier call gave: the serials before it are of calls up to the last, its own of the
  -- next.
  pub serials_are_new : (requests : List Request) (next : Request)
      → SerialsUpTo (after requests).ledger.call (after requests).ledger × MadeSerials (after requests).ledger next
  unfolding run_at_deployment deployed
  serials_are_new requests next = (
    serials_after_all start (serials_at_deployment file addresses) requests,
    made_serials (after requests).ledger next,
  )

  -- Demand 3: "the party's view by document 01 is the same, to the byte, after deployment and after each call before the first, if any, in
  -- which a reveal to that party or to all discloses different values." Of two lists paired for the party: where the first n disclosures
  -- agree, so do the view after deployment and the first n after calls.
  pub equal_views : deploy_number file addresses ≡ 0 → (party : ℕ) (requests requests' : List Request)
      → Paired party start start requests requests' → (n : ℕ)
      → take n (disclosures party start requests) ≡ take n (disclosures party start requests')
      → take (suc n) (views_after party start requests) ≡ take (suc n) (views_after party start requests')
  equal_views clear party requests requests' paired n =
      let faithful = faithful_at_deployment file addresses clear in
      views_agree party paired n
      (record {
        faithful = faithful;
        faithful' = faithful;
        file = refl;
        ledgers =
            record {
              call = refl;
              function = refl;
              caller = refl;
              outcome = refl;
              parameters = alike_itself party _;
              variables = alike_itself party _;
              places = alike_itself party _;
            };
      })

  -- What is told of a call before it is made is what demand 3 counts of it: "Each reveal to all or to the party's address, once worked out,
  -- adds its value to what the call discloses to the party, up to a failure."
  pub told_before_is_disclosed : deploy_number file addresses ≡ 0 → (requests : List Request) (next : Request) (party : ℕ)
      → is_taken (after requests) next ≡ true
      → disclosed_on (after requests).ledger next.function next.caller next.arguments party
      ≡ disclosed_in party (after requests) next
  told_before_is_disclosed clear requests next party taken =
      told_is_disclosed party _ (faithful_after_all _ (faithful_at_deployment file addresses clear) requests) next taken
