-- The least of the numbers 8 to 15 in a list of faults.
use Rattle.kit.specs.Names.{Bool, cond, List, ℕ, zero, suc, eqb}
use Rattle.definitions.specs.Basics.{any}

-- The first of `count` numbers from n on that passes a test, or the number after them.
unfoldable pub first_of : ℕ → ℕ → (ℕ → Bool) → ℕ
first_of zero n test = n
first_of (suc count) n test = cond (test n) n (first_of count (suc n) test)

-- 16 where no sentence holds.
unfoldable pub least_fault : List ℕ → ℕ
least_fault faults = first_of 8 8 (λ n. any (eqb n) faults)

-- The number that a file is refused by, 0 for none.
abbrev pub number_of : ℕ → ℕ
number_of n = cond (eqb n 16) 0 n
