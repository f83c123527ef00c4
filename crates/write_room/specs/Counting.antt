-- Sums over lists of numbers, and lists without one number.
use Rattle.std.specs.Prelude.{◌∷◌, ◌+◌, ◌<◌}
use Rattle.kit.specs.Names.{cond, List, [], ℕ, eqb}

unfoldable pub sum_of : (ℕ → ℕ) → List ℕ → ℕ
sum_of f [] = 0
sum_of f (x ∷ xs) = f x + sum_of f xs

unfoldable pub without : ℕ → List ℕ → List ℕ
without k [] = []
without k (x ∷ xs) = cond (eqb k x) (without k xs) (x ∷ without k xs)

unfoldable pub Below : ℕ → List ℕ → Type 0
Below k [] = Unit {0}
Below k (x ∷ xs) = (x < k) × Below k xs
