-- The next end of a log: how many numbers stand up to it and with it, and which variable is next behind it.
use Rattle.std.specs.Prelude.{◌≡◌, ◌∷◌, ◌+◌}
use Rattle.kit.specs.Names.{cond, List, [], ℕ, eqb, drop}
use Rattle.rewrite_log.specs.declared.Position.{Position}

-- A log ends where fewer than five numbers are left.
unfoldable pub numbers_to_end : List ℕ → ℕ
numbers_to_end [] = 0
numbers_to_end (a ∷ []) = 0
numbers_to_end (a ∷ b ∷ []) = 0
numbers_to_end (a ∷ b ∷ c ∷ []) = 0
numbers_to_end (a ∷ b ∷ c ∷ d ∷ []) = 0
numbers_to_end (tag ∷ variable ∷ owner ∷ node ∷ last ∷ numbers) = cond (eqb tag 4) 5 (5 + numbers_to_end numbers)

unfoldable pub variable_at_end : List ℕ → ℕ
variable_at_end [] = 0
variable_at_end (a ∷ []) = 0
variable_at_end (a ∷ b ∷ []) = 0
variable_at_end (a ∷ b ∷ c ∷ []) = 0
variable_at_end (a ∷ b ∷ c ∷ d ∷ []) = 0
variable_at_end (tag ∷ variable ∷ owner ∷ node ∷ last ∷ numbers) = cond (eqb tag 4) variable (variable_at_end numbers)

pub record EndFound (log : List ℕ) (from : ℕ) (r : Position) : Type 0 where
  pub place : r.at ≡ from + numbers_to_end (drop from log)
  pub variable : r.variable ≡ variable_at_end (drop from log)
