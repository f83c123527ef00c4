-- A refused deployment hands back the ledger of nothing, another the deployed one.
use Rattle.std.specs.Prelude.{◌≡◌, ◌<◌, ◌≤◌}
use Rattle.kit.specs.Names.{refl, ap, sym, ◌∙◌, cond, List, [], ℕ, arith, eq-eqb, ne_eqb}
use Rattle.definitions.specs.Basics.{is_zero}
use Rattle.definitions.specs.Ledger as ledger
use Rattle.definitions.specs.Ledger.{deploy_number, deployed}
use Rattle.ledger_contents.specs.declared.Place.{Place}
use Rattle.ledger_struct.specs.declared.Ledger.{Ledger}
use Rattle.ledger_struct.specs.Ledgers.{ledger_of}
use Rattle.ledger_struct.specs.Whole.{padded, places_for, struct_of}
use Rattle.ledger_struct.proofs.Meaning.{struct_means}
use Rattle.deploy.specs.declared.Deployment.{Deployment}
use Rattle.deploy.specs.Deployments.{nothing_deployed, Refused, Deployed}

-- The struct of nothing, from its parts.
pub nothing_whole : (file : List ℕ) (parameters variables places : List Place) → file ≡ padded 4596 0 [] → parameters ≡ places_for 8 []
    → variables ≡ places_for 1024 [] → places ≡ places_for 1024 []
    → ◌≡◌ {A = Ledger}
    (record {
      file = file;
      file_length = 0;
      call = 0;
      function = 0;
      caller = 0;
      outcome = 0;
      parameters = parameters;
      parameter_count = 0;
      variables = variables;
      variable_count = 0;
      places = places;
      place_count = 0;
    })
    (struct_of nothing_deployed)
unfolding struct_of nothing_deployed
nothing_whole file parameters variables places a b c d = rw (a, b, c, d)

module _ (file addresses : List ℕ) (number : ℕ) (same : number ≡ deploy_number file addresses) where
  -- The struct alone says it all.
  told : (r : Deployment) (l : ledger.Ledger) → r.number ≡ number → r.ledger ≡ struct_of l → l ≡ cond (is_zero r.number) (deployed file addresses) nothing_deployed
      → Deployed file addresses r
  told r l given is e = record { number = given ∙ same; ledger = ap ledger_of is ∙ struct_means l ∙ e; whole = is ∙ ap struct_of e }

  pub refused_is : (r : Deployment) → 0 < number → Refused number r → Deployed file addresses r
  refused_is r some is =
      let given : r.number ≡ number = is.given in
      let other : is_zero r.number ≡ _ = ne_eqb r.number 0 (λ e. omega arith) in
      told r nothing_deployed given is.whole (sym (ap (λ b. cond b (deployed file addresses) nothing_deployed) other))

  pub accepted_is : (l : Ledger) → number ≤ 0 → l ≡ struct_of (deployed file addresses) → Deployed file addresses (record { number = number; ledger = l })
  accepted_is l none e =
      let zero_number : is_zero number ≡ _ = eq-eqb number 0 (omega arith) in
      told (record { number = number; ledger = l }) (deployed file addresses) refl e (sym (ap (λ b. cond b (deployed file addresses) nothing_deployed) zero_number))
