-- Number 17 by counting finals and looking at each address, and the file's own number before it.
use Rattle.std.specs.Prelude.{◌≡◌, ◌||◌, ◌∷◌, ◌+◌, ◌<◌, ◌≤◌}
use Rattle.kit.specs.Names.{refl, ◌∙◌, Bool, cond, not, List, ℕ, zero, suc, arith, add-one, eqb}
use Rattle.kit.specs.Names.{ltb, length, drop, drop_of_length-le, drop-cons, eq-eqb, ne_eqb}
use Rattle.std.specs.List.{list_any}
use Rattle.std.proofs.lemmas.List.Recursion.{same_from_clauses}
use Rattle.definitions.specs.Basics.{any, count_if, first_that_holds}
use Rattle.definitions.specs.ContractFile.{Field, field_at, is_final, contract_in}
use Rattle.definitions.specs.Numbers.{check_number, or_else}
use Rattle.definitions.specs.Ledger.{finals_off, deploy_number}
use Rattle.file_accepted.specs.Context.{fields_in}
use Rattle.file_accepted.proofs.Functions.{fields_in_law}
use Rattle.deploy_17_addresses.specs.Addresses.{addresses_number}

abbrev pub finals_from : List Field → ℕ → ℕ
finals_from fields f = count_if (λ d. is_final d.shape) (drop f fields)

-- One field more is looked at.
pub finals_next : (fields : List Field) (f finals bit goal : ℕ) → f < length fields → bit ≡ cond (is_final (field_at fields f).shape) 1 0
    → finals + finals_from fields f ≡ goal → finals + bit + finals_from fields (f + 1) ≡ goal
unfolding count_if
finals_next fields f finals bit goal inside e inv =
    let opened : drop f fields ≡ field_at fields f ∷ drop (suc f) fields = drop-cons fields f _ inside in
    let step : finals_from fields f ≡ bit + finals_from fields (f + 1) = rw (opened, e, add-one f) in
    omega arith

pub finals_done : (fields : List Field) (f finals goal : ℕ) → length fields ≤ f → finals + finals_from fields f ≡ goal → finals ≡ goal
unfolding count_if
finals_done fields f finals goal out inv =
    let none : finals_from fields f ≡ 0 = rw (drop_of_length-le fields out) in
    omega arith

-- The library's word for a test that some address passes.
pub any_listed : (test : ℕ → Bool) (addresses : List ℕ) → list_any test addresses ≡ any test addresses
unfolding any
any_listed test = same_from_clauses (list_any test) (any test) (λ address later. test address || later) refl (λ _ _. refl) (λ _ _. refl)

-- Number 17 from the count of finals and the test of the addresses.
module _ (file addresses : List ℕ) (finals : ℕ) (counted : finals ≡ count_if (λ d. is_final d.shape) (fields_in file)) where
  off_is : finals_off (contract_in file).fields addresses ≡ (not (eqb (length addresses) finals) || any (ltb 15) addresses)
  off_is = rw (fields_in_law file, ← counted)

  pub count_differs : (length addresses ≡ finals → ⊥) → 17 ≡ addresses_number file addresses
  unfolding addresses_number first_that_holds
  count_differs n = rw (off_is, ne_eqb (length addresses) finals n)

  pub counts_agree : (high : Bool) → length addresses ≡ finals → high ≡ any (ltb 15) addresses → cond high 17 0 ≡ addresses_number file addresses
  unfolding addresses_number first_that_holds
  counts_agree high e h = rw (off_is, eq-eqb (length addresses) finals e, h)

pub own_first : (file addresses : List ℕ) (own given r : ℕ) → own ≡ check_number file → given ≡ addresses_number file addresses → r ≡ or_else own given
    → r ≡ deploy_number file addresses
unfolding deploy_number addresses_number
own_first file addresses own given r a b e = e ∙ (rw (a, b))

pub second_number : (first second : ℕ) → first ≡ 0 → second ≡ or_else first second
second_number zero second h = refl
second_number (suc n) second h = absurd (omega arith)

pub first_number : (first second : ℕ) → (first ≡ 0 → ⊥) → first ≡ or_else first second
first_number zero second h = absurd (h refl)
first_number (suc n) second h = refl
