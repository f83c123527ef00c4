-- The claims of a log's entries, one entry after another.
use Rattle.std.specs.Prelude.{◌≡◌, ◌∷◌, ◌+◌, ◌*◌, ◌-◌}
use Rattle.kit.specs.Names.{refl, List, [], ℕ, zero, suc, arith, get_or, eq-eqb, ne_eqb}
use Rattle.definitions.specs.ContractFile.{Scope, Node}
use Rattle.write_circuits.specs.Circuits.{claim_at, claims_at, Claimable, EntryClaimable}

module _ (scope : Scope) (nodes : List Node) (log : List ℕ) (from : ℕ) where
  pub claims_none : (left : ℕ) → left ≡ 0 → claims_at scope nodes log from left ≡ []
  unfolding claims_at
  claims_none zero h = refl
  claims_none (suc left) h = absurd (omega arith)

  pub claims_claim : (left : ℕ) → (left ≡ 0 → ⊥) → get_or log from 0 ≡ 1
      → claims_at scope nodes log from left ≡ claim_at scope nodes log from ∷ claims_at scope nodes log (from + 5) (left - 1)
  unfolding claims_at
  claims_claim zero h e = absurd (h refl)
  claims_claim (suc left) h e =
      let less : suc left - 1 ≡ left = omega arith in
      rw (eq-eqb (get_or log from 0) 1 e, less)

  pub claims_other : (left : ℕ) → (left ≡ 0 → ⊥) → (get_or log from 0 ≡ 1 → ⊥) → claims_at scope nodes log from left ≡ claims_at scope nodes log (from + 5) (left - 1)
  unfolding claims_at
  claims_other zero h e = absurd (h refl)
  claims_other (suc left) h e =
      let less : suc left - 1 ≡ left = omega arith in
      rw (ne_eqb (get_or log from 0) 1 e, less)

module _ (file : List ℕ) (function_start : ℕ) (log : List ℕ) (from left : ℕ) (some : left ≡ 0 → ⊥) (claimable : Claimable file function_start log from left) where
  pub claimable_next : Claimable file function_start log (from + 5) (left - 1)
  claimable_next =
      record {
        space = omega (arith, claimable.space);
        inside = λ k h. (let e : from + 5 + 5 * k ≡ from + 5 * suc k = omega arith in rw e (claimable.inside (suc k) (omega arith)));
        few = λ k h. (let e : from + 5 + 5 * k ≡ from + 5 * suc k = omega arith in rw e (claimable.few (suc k) (omega arith)));
      }

  first_place : from + 5 * 0 ≡ from
  first_place = omega arith

  pub claimable_first : get_or log from 0 ≡ 1 → EntryClaimable file function_start log from
  claimable_first tag =
      let inside = rw first_place at (claimable.inside 0 (omega arith)) in
      let few = rw first_place at (claimable.few 0 (omega arith)) in
      record { space = omega (arith, claimable.space); inside = inside tag; few = few tag }
