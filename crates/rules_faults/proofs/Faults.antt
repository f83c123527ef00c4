-- The least fault of lists put together, of one sentence, and of a contract.
use Rattle.std.specs.Prelude.{◌≡◌, ◌||◌, ◌∷◌, ◌++◌, ◌+◌, ◌≤◌}
use Rattle.kit.specs.Names.{refl, Bool, true, false, cond, List, [], ℕ, zero, suc, min, arith, eqb}
use Rattle.definitions.specs.Basics.{any, first_that_holds}
use Rattle.definitions.specs.Numbers.{fault, contract_faults, contract_sentences}
use Rattle.definitions.specs.ContractFile.{Contract}
use Rattle.theory_laws.proofs.Lists.{any_append}
use Rattle.rules_faults.specs.Faults.{first_of, least_fault, number_of}

first_within : (count n : ℕ) (test : ℕ → Bool) → (n ≤ first_of count n test) × (first_of count n test ≤ n + count)
unfolding first_of
first_within zero n test = (omega arith, omega arith)
first_within (suc count) n test = go (test n) (first_within count (suc n) test)
  where
    go : (b : Bool) → (suc n ≤ first_of count (suc n) test) × (first_of count (suc n) test ≤ suc n + count)
        → (n ≤ cond b n (first_of count (suc n) test)) × (cond b n (first_of count (suc n) test) ≤ n + suc count)
    go true h = (omega arith, omega arith)
    go false h = (omega arith, omega arith)

first_either : (count n : ℕ) (one two both : ℕ → Bool) → ((m : ℕ) → both m ≡ (one m || two m)) → first_of count n both ≡ min (first_of count n one) (first_of count n two)
unfolding first_of
first_either zero n one two both h = omega arith
first_either (suc count) n one two both h =
    rw (h n, first_either count (suc n) one two both h)
    (go (one n) (two n) _ _ (first_within count (suc n) one).0 (first_within count (suc n) two).0)
  where
    go : (a b : Bool) (x y : ℕ) → suc n ≤ x → suc n ≤ y → cond (a || b) n (min x y) ≡ min (cond a n x) (cond b n y)
    go true true x y p q = omega arith
    go true false x y p q = omega arith
    go false true x y p q = omega arith
    go false false x y p q = refl

pub least_append : (xs ys : List ℕ) → least_fault (xs ++ ys) ≡ min (least_fault xs) (least_fault ys)
unfolding least_fault
least_append xs ys = first_either 8 8 _ _ _ (λ m. any_append (eqb m) xs ys)

pub least_none : least_fault [] ≡ 16
unfolding least_fault first_of any
least_none = refl

-- A sentence by itself; the premise is decided for each of the numbers 8 to 15.
pub least_one : (holds : Bool) (n : ℕ) → least_fault (n ∷ []) ≡ n → least_fault (fault holds n) ≡ cond holds n 16
least_one true n h = h
least_one false n h = least_none

abbrev pub Counted : ℕ → Type 0
Counted n = least_fault (n ∷ []) ≡ n

counted : (Counted 8) × (Counted 9) × (Counted 10) × (Counted 11) × (Counted 12) × (Counted 13) × (Counted 14) × (Counted 15)
unfolding least_fault first_of any
counted = (refl, refl, refl, refl, refl, refl, refl, refl)

pub counted_8 : Counted 8
counted_8 = counted.0

pub counted_9 : Counted 9
counted_9 = counted.1

pub counted_10 : Counted 10
counted_10 = counted.2

pub counted_11 : Counted 11
counted_11 = counted.3

pub counted_12 : Counted 12
counted_12 = counted.4

pub counted_13 : Counted 13
counted_13 = counted.5

pub counted_14 : Counted 14
counted_14 = counted.6

pub counted_15 : Counted 15
counted_15 = counted.7

first_sentence : (a b c d e f g h : Bool)
    → first_that_holds 8 (a ∷ b ∷ c ∷ d ∷ e ∷ f ∷ g ∷ h ∷ [])
    ≡ number_of (cond a 8 (cond b 9 (cond c 10 (cond d 11 (cond e 12 (cond f 13 (cond g 14 (cond h 15 16))))))))
unfolding first_that_holds
first_sentence true b c d e f g h = refl
first_sentence false true c d e f g h = refl
first_sentence false false true d e f g h = refl
first_sentence false false false true e f g h = refl
first_sentence false false false false true f g h = refl
first_sentence false false false false false true g h = refl
first_sentence false false false false false false true h = refl
first_sentence false false false false false false false true = refl
first_sentence false false false false false false false false = refl

-- "The first sentence that holds gives the number; 0 means accepted."
pub least_sentence : (contract : Contract) → first_that_holds 8 (contract_sentences contract) ≡ number_of (least_fault (contract_faults contract))
unfolding least_fault first_of
least_sentence contract = first_sentence _ _ _ _ _ _ _ _

pub least_bounded : (faults : List ℕ) → least_fault faults ≤ 16
unfolding least_fault
least_bounded faults = (first_within 8 8 (λ n. any (eqb n) faults)).1
