-- What the number that refuses before all else tells of the call's number and of the party.
use Rattle.std.specs.Prelude.{◌≡◌, ◌||◌, ◌∷◌, ◌≤◌}
use Rattle.kit.specs.Names.{refl, sym, ◌∙◌, Bool, true, false, [], ℕ, zero, suc, arith, ltb, ltb-false}
use Rattle.definitions.specs.Basics.{first_that_holds}
use Rattle.definitions.specs.Numbers.{or_else}

pub number_first : (number later : ℕ) → (number ≡ 0 → ⊥) → number ≡ or_else number later
number_first zero later some = absurd (some refl)
number_first (suc n) later some = refl

-- The first of two numbers, the second of which tells whether a test holds.
abbrev either : ℕ → Bool → ℕ
either number above = or_else number (first_that_holds 21 (above ∷ []))

clear : (number : ℕ) (above : Bool) → either number above ≡ 0 → (number ≡ 0) × (above ≡ false)
unfolding first_that_holds
clear zero true e = absurd (omega (arith, e))
clear zero false e = (refl, refl)
clear (suc n) above e = absurd (omega (arith, e))

-- What refuses already goes before a test that comes later.
before_later : (number : ℕ) (above later : Bool) → (either number above ≡ 0 → ⊥) → either number above ≡ either number (above || later)
unfolding first_that_holds
before_later zero true later some = refl
before_later zero false later some = absurd (some refl)
before_later (suc n) above later some = refl

module _ (number party n : ℕ) (same : n ≡ or_else number (first_that_holds 21 (ltb 15 party ∷ []))) where
  pub number_clear : n ≡ 0 → number ≡ 0
  number_clear none = (clear number (ltb 15 party) (sym same ∙ none)).0

  pub party_low : n ≡ 0 → party ≤ 15
  party_low none = ltb-false 15 party (clear number (ltb 15 party) (sym same ∙ none)).1

  pub refused_first : (later : Bool) → (n ≡ 0 → ⊥) → n ≡ or_else number (first_that_holds 21 ((ltb 15 party || later) ∷ []))
  refused_first later some = same ∙ before_later number (ltb 15 party) later (λ z. some (same ∙ z))
