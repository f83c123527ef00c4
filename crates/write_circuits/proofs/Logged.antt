-- The claims and circuits that a log of events holds are those of the events.
use Rattle.std.specs.Prelude.{◌≡◌, ◌∷◌, ◌+◌, ◌-◌}
use Rattle.kit.specs.Names.{refl, ap, sym, ◌∙◌, false, List, [], ℕ, suc, add-one, add-zero, eqb, length, get_or}
use Rattle.definitions.specs.Basics.{flat_map}
use Rattle.definitions.specs.ContractFile.{Scope, Owner, owner_code, Node}
use Rattle.definitions.specs.Rewriting.{Guard, Tree, size, sizes, claim_trees, guard_number}
use Rattle.theory_trees.specs.Trees.{expression_in}
use Rattle.rewrite_events.specs.Events.{Event, claimed_event, constraints_of}
use Rattle.rewrite_log.specs.Entries.{supplied_entry, claimed_entry, read_entry, guard_entry, end_entry, Entries, no_entry, entry_then}
use Rattle.write_reads.specs.Forms.{circuit_form}
use Rattle.write_logged_steps.specs.Held.{Holds}
use Rattle.write_logged_steps.proofs.Held.{holds_tag, holds_variable, holds_node, holds_last, holds_rest}
use Rattle.write_trees.specs.Numbers.{constraint_numbers}
use Rattle.write_circuits.specs.Circuits.{LoggedClaim, trees_of, fours_of, claims_at, logged_claims, logged_circuits}
use Rattle.write_circuits.proofs.Held.{holds_owner}

abbrev claim_of : Scope → List Node → Guard → ℕ → Owner → ℕ → LoggedClaim
claim_of scope nodes g i o n = record { guard = guard_number g; variable = i; owner = owner_code o; tree = circuit_form scope (expression_in nodes n) (suc i) }

module _ (scope : Scope) (nodes : List Node) (log : List ℕ) where
  skipped : (from left tag : ℕ) → get_or log from 0 ≡ tag → eqb tag 1 ≡ false → claims_at scope nodes log from (suc left) ≡ claims_at scope nodes log (from + 5) left
  unfolding claims_at
  skipped from left tag e t = rw (e, t)

  taken : (from left i owner n last : ℕ) → get_or log from 0 ≡ 1 → get_or log (from + 1) 0 ≡ i → get_or log (from + 2) 0 ≡ owner → get_or log (from + 3) 0 ≡ n
      → get_or log (from + 4) 0 ≡ last
      → claims_at scope nodes log from (suc left)
      ≡ record { guard = last; variable = i; owner = owner; tree = circuit_form scope (expression_in nodes n) (suc i) } ∷ claims_at scope nodes log (from + 5) left
  unfolding claims_at
  taken from left i owner n last e v o m l = rw (e, v, o, m, l, add-one i)

  -- The claims of events, in order.
  pub data ClaimsOf : List Event → List LoggedClaim → Type 0 where
    no_claims : ClaimsOf [] []
    passed : {event : Event} {events : List Event} {claims : List LoggedClaim} → constraints_of scope (event ∷ events) ≡ constraints_of scope events → ClaimsOf events claims
        → ClaimsOf (event ∷ events) claims
    claimed : {events : List Event} {claims : List LoggedClaim} (g : Guard) (i : ℕ) (o : Owner) (n : ℕ) → ClaimsOf events claims
        → ClaimsOf (claimed_event g i o (expression_in nodes n) ∷ events) (claim_of scope nodes g i o n ∷ claims)

  found : (events : List Event) (claims others : List LoggedClaim) → claims ≡ others → ClaimsOf events others → ClaimsOf events claims
  found events claims others e h = rw e h

  claims_of_law : (events : List Event) (numbers : List ℕ) → Entries nodes events numbers → (from : ℕ) → Holds log numbers from → ClaimsOf events (claims_at scope nodes log from (length events))
  unfolding claims_at constraints_of
  claims_of_law _ _ no_entry from holds = no_claims
  claims_of_law _ _ (entry_then {events} {numbers} (supplied_entry i o n h) rest) from holds =
      found _ _ _ (skipped from (length events) 0 (holds_tag log numbers from _ _ _ _ _ holds) refl)
      (passed refl (claims_of_law events numbers rest (from + 5) (holds_rest log numbers from _ _ _ _ _ holds)))
  claims_of_law _ _ (entry_then {events} {numbers} (claimed_entry g i o n h) rest) from holds =
      found _ _ _
      (taken from (length events) i (owner_code o) n (guard_number g) (holds_tag log numbers from _ _ _ _ _ holds) (holds_variable log numbers from _ _ _ _ _ holds)
      (holds_owner log numbers from _ _ _ _ _ holds) (holds_node log numbers from _ _ _ _ _ holds) (holds_last log numbers from _ _ _ _ _ holds))
      (claimed g i o n (claims_of_law events numbers rest (from + 5) (holds_rest log numbers from _ _ _ _ _ holds)))
  claims_of_law _ _ (entry_then {events} {numbers} (read_entry s j o n h) rest) from holds =
      found _ _ _ (skipped from (length events) 2 (holds_tag log numbers from _ _ _ _ _ holds) refl)
      (passed refl (claims_of_law events numbers rest (from + 5) (holds_rest log numbers from _ _ _ _ _ holds)))
  claims_of_law _ _ (entry_then {events} {numbers} (guard_entry i) rest) from holds =
      found _ _ _ (skipped from (length events) 3 (holds_tag log numbers from _ _ _ _ _ holds) refl)
      (passed refl (claims_of_law events numbers rest (from + 5) (holds_rest log numbers from _ _ _ _ _ holds)))
  claims_of_law _ _ (entry_then {events} {numbers} (end_entry i) rest) from holds =
      found _ _ _ (skipped from (length events) 4 (holds_tag log numbers from _ _ _ _ _ holds) refl)
      (passed refl (claims_of_law events numbers rest (from + 5) (holds_rest log numbers from _ _ _ _ _ holds)))

  numbers_of_law : (events : List Event) (claims : List LoggedClaim) → ClaimsOf events claims → (base : ℕ) → fours_of base claims ≡ constraint_numbers base (constraints_of scope events)
  unfolding fours_of constraint_numbers constraints_of sizes
  numbers_of_law _ _ no_claims base = refl
  numbers_of_law _ _ (passed {event} {events} {claims} e rest) base = numbers_of_law events claims rest base ∙ ap (constraint_numbers base) (sym e)
  numbers_of_law _ _ (claimed {events} {claims} g i o n rest) base =
      let t = size (circuit_form scope (expression_in nodes n) (suc i)) in
      ap (λ (l : List ℕ). guard_number g ∷ i ∷ owner_code o ∷ (base + t - 1) ∷ l)
      (numbers_of_law events claims rest (base + t) ∙ ap (λ (k : ℕ). constraint_numbers (base + k) (constraints_of scope events)) (sym (add-zero t)))

  trees_of_law : (events : List Event) (claims : List LoggedClaim) → ClaimsOf events claims → trees_of claims ≡ flat_map (λ c. claim_trees c.claim) (constraints_of scope events)
  unfolding flat_map constraints_of
  trees_of_law _ _ no_claims = refl
  trees_of_law _ _ (passed {event} {events} {claims} e rest) = trees_of_law events claims rest ∙ ap (flat_map (λ c. claim_trees c.claim)) (sym e)
  trees_of_law _ _ (claimed {events} {claims} g i o n rest) =
      ap (λ (l : List Tree). circuit_form scope (expression_in nodes n) (suc i) ∷ l) (trees_of_law events claims rest)

  count_of : (events : List Event) (claims : List LoggedClaim) → ClaimsOf events claims → length claims ≡ length (constraints_of scope events)
  unfolding constraints_of
  count_of _ _ no_claims = refl
  count_of _ _ (passed {event} {events} {claims} e rest) = count_of events claims rest ∙ ap length (sym e)
  count_of _ _ (claimed {events} {claims} g i o n rest) = ap suc (count_of events claims rest)

  module _ (events : List Event) (numbers : List ℕ) (entries : Entries nodes events numbers) (from : ℕ) (holds : Holds log numbers from) where
    pub claims_logged : (base : ℕ) → logged_claims scope nodes base log from (length events) ≡ constraint_numbers base (constraints_of scope events)
    claims_logged base = numbers_of_law events (claims_at scope nodes log from (length events)) (claims_of_law events numbers entries from holds) base

    pub circuits_logged : logged_circuits scope nodes log from (length events) ≡ flat_map (λ c. claim_trees c.claim) (constraints_of scope events)
    circuits_logged = trees_of_law events (claims_at scope nodes log from (length events)) (claims_of_law events numbers entries from holds)

    pub count_logged : length (claims_at scope nodes log from (length events)) ≡ length (constraints_of scope events)
    count_logged = count_of events (claims_at scope nodes log from (length events)) (claims_of_law events numbers entries from holds)
