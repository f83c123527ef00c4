-- The search for an end among a log's entries.
use Rattle.std.specs.Prelude.{◌≡◌, ◌∷◌, ◌+◌, ◌*◌, ◌-◌, ◌/◌, ◌<◌, ◌≤◌, Option, Some, None}
use Rattle.kit.specs.Names.{refl, sym, ◌∙◌, Bool, true, false, not, cond, List, [], ℕ, zero, suc, arith, eqb, ltb, length, get_or, take, drop}
use Rattle.kit.specs.Names.{ap, ltb-true, ltb-false, length-drop, take_all, get_or_eq_default}
use Rattle.std.specs.List.{position_or_len}
use Rattle.std.specs.Simd.{first_chunks}
use Rattle.write_ends.specs.Ends.{numbers_to_end, variable_at_end, EndFound}

abbrev pub is_end : List ℕ → Bool
is_end entry = eqb (get_or entry 0 0) 4

-- The entry at which a log of n entries, and of a few numbers behind them, first ends, or where none does their count.
abbrev FirstEnd : ℕ → List (List ℕ) → List ℕ → ℕ → Type 0
FirstEnd n entries log i =
    (i ≤ n) × (i < n → numbers_to_end log ≡ 5 * i + 5) × (n ≤ i → numbers_to_end log ≡ 5 * i)
    × (variable_at_end log ≡ get_or (get_or entries i []) 1 0)

first_end : (n : ℕ) (log : List ℕ) (i : ℕ) → 5 * n ≤ length log → length log < 5 * n + 5
    → position_or_len is_end (first_chunks 5 n log) ≡ i → FirstEnd n (first_chunks 5 n log) log i
unfolding numbers_to_end variable_at_end
first_end zero [] zero fits few here = (omega arith, λ h. omega arith, λ h. refl, refl)
first_end zero (a ∷ []) zero fits few here = (omega arith, λ h. omega arith, λ h. refl, refl)
first_end zero (a ∷ b ∷ []) zero fits few here = (omega arith, λ h. omega arith, λ h. refl, refl)
first_end zero (a ∷ b ∷ c ∷ []) zero fits few here = (omega arith, λ h. omega arith, λ h. refl, refl)
first_end zero (a ∷ b ∷ c ∷ d ∷ []) zero fits few here = (omega arith, λ h. omega arith, λ h. refl, refl)
first_end zero (a ∷ b ∷ c ∷ d ∷ e ∷ log) i fits few here = absurd (omega arith)
first_end zero log (suc i) fits few here = absurd (omega arith)
first_end (suc n) [] i fits few here = absurd (omega arith)
first_end (suc n) (a ∷ []) i fits few here = absurd (omega arith)
first_end (suc n) (a ∷ b ∷ []) i fits few here = absurd (omega arith)
first_end (suc n) (a ∷ b ∷ c ∷ []) i fits few here = absurd (omega arith)
first_end (suc n) (a ∷ b ∷ c ∷ d ∷ []) i fits few here = absurd (omega arith)
first_end (suc n) (tag ∷ b ∷ c ∷ d ∷ e ∷ log) i fits few here =
    go _ (eqb tag 4) refl here (first_end n log _ (omega arith) (omega arith) refl)
  where
    go : (later : ℕ) (is : Bool) → eqb tag 4 ≡ is → cond (not (eqb tag 4)) (1 + later) 0 ≡ i → FirstEnd n (first_chunks 5 n log) log later
        → FirstEnd (suc n) (first_chunks 5 (suc n) (tag ∷ b ∷ c ∷ d ∷ e ∷ log)) (tag ∷ b ∷ c ∷ d ∷ e ∷ log) i
    go later true ends h below = let none : 0 ≡ i = (rw ends at h) in rw (← none, ends) (
      omega arith,
      λ h. refl,
      λ h. absurd
          (omega arith),
      refl,
    )
    go later false ends h below = let more = rw ends at h in let next : suc later ≡ i = omega arith in
        rw (← next, ends) (omega arith, λ h. omega arith, λ h. omega arith, below.3)

-- What `position` answers, from the first entry that passes.
some_first : (p n i : ℕ) → cond (ltb p n) (Some p) None ≡ Some i → (p ≡ i) × (p < n)
some_first p n i h = go (ltb p n) refl h
  where
    go : (b : Bool) → ltb p n ≡ b → cond b (Some p) None ≡ Some i → (p ≡ i) × (p < n)
    go true l h = (cc, ltb-true p n l)
    go false l h = absurd (cc)

none_first : (p n : ℕ) → cond (ltb p n) (Some p) None ≡ None → n ≤ p
none_first p n h = go (ltb p n) refl h
  where
    go : (b : Bool) → ltb p n ≡ b → cond b (Some p) None ≡ None → n ≤ p
    go true l h = absurd (cc)
    go false l h = ltb-false p n l

-- The entries of a log from a place on, and what `position` answers of them.
module _ (log : List ℕ) (from : ℕ) where
  abbrev rest : List ℕ
  rest = take (length log - from) (drop from log)

  rest_is : rest ≡ drop from log
  rest_is = take_all (length log - from) (drop from log) (let l = length-drop from log in omega arith)

  module _ (entries : List (List ℕ)) (are : entries ≡ first_chunks 5 (length rest / 5) rest) (many : length entries ≡ length rest / 5)
      (r : Option ℕ)
      (answers : r ≡ cond (ltb (position_or_len is_end entries) (length entries)) (Some (position_or_len is_end entries)) None) where
    abbrev at : ℕ
    at = position_or_len is_end entries

    first : FirstEnd (length entries) entries (drop from log) at
    first = rw (← rest_is, many, are) (first_end (length rest / 5) rest _ (omega arith) (omega arith) refl)

    pub end_found : (i : ℕ) → r ≡ Some i → EndFound log from (record { at = from + 5 * i + 5; variable = get_or (get_or entries i []) 1 0 })
    end_found i is =
        let (here, inside) = some_first at (length entries) i (sym answers ∙ is) in
        let (_, place, _, variable) = first in
        record { place = omega arith; variable = ap (λ k. get_or (get_or entries k []) 1 0) (sym here) ∙ sym variable }

    pub no_end : r ≡ None → EndFound log from (record { at = from + 5 * length entries; variable = 0 })
    no_end is =
        let outside = none_first at (length entries) (sym answers ∙ is) in
        let (most, _, place, variable) = first in
        let past : get_or entries at [] ≡ [] = get_or_eq_default entries [] outside in
        record { place = omega arith; variable = sym (variable ∙ ap (λ (e : List ℕ). get_or e 1 0) past) }
