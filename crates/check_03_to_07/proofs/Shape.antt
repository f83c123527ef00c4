-- Numbers 3 and 4 come before 5 to 7; of sections of number 0 neither of the first two holds.
use Rattle.std.specs.Prelude.{◌≡◌, ◌∷◌}
use Rattle.kit.specs.Names.{refl, sym, ◌∙◌, Bool, true, false, List, [], ℕ}
use Rattle.definitions.specs.Basics.{first_that_holds}
use Rattle.definitions.specs.ContractFile.{Sections}
use Rattle.definitions.specs.Numbers.{outside_tables, names_nothing, used_other_than_once, too_deep, wrong_sort}
use Rattle.theory_accepted.proofs.Sentences.{none_holds}
use Rattle.check_03_to_07.specs.Shape.{sections_number}

pub tables_and_numbers : (s : Sections) → sections_number s ≡ 0 → (outside_tables s ≡ false) × (names_nothing s ≡ false)
unfolding sections_number
tables_and_numbers s h =
    let no = none_holds 2 _ h in
    (no 0, no 1)

early : (a b : Bool) (later : List Bool) → (first_that_holds 3 (a ∷ b ∷ []) ≡ 0 → ⊥) → first_that_holds 3 (a ∷ b ∷ []) ≡ first_that_holds 3 (a ∷ b ∷ later)
unfolding first_that_holds
early true b later some = refl
early false true later some = refl
early false false later some = absurd (some refl)

module _ (s : Sections) (number : ℕ) (is : number ≡ first_that_holds 3 (outside_tables s ∷ names_nothing s ∷ [])) where
  pub first_two : (number ≡ 0 → ⊥) → number ≡ sections_number s
  unfolding sections_number
  first_two some = is ∙ early (outside_tables s) (names_nothing s) _ (λ e. some (is ∙ e))

  module _ (none : number ≡ 0) where
    neither : (outside_tables s ≡ false) × (names_nothing s ≡ false)
    neither =
        let no = none_holds 2 _ (sym is ∙ none) in
        (no 0, no 1)

    pub names_settled : names_nothing s ≡ false
    names_settled = neither.1

    pub last_three : (later : ℕ) → later ≡ first_that_holds 5 (used_other_than_once s ∷ too_deep s ∷ wrong_sort s ∷ []) → later ≡ sections_number s
    unfolding sections_number first_that_holds
    last_three later e = rw (neither.0, neither.1) e
