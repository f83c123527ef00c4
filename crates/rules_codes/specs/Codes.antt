-- Rules on data types and owners, told of their numbers.
use Rattle.std.specs.Prelude.{◌&&◌, ◌<◌, ◌≤◌}
use Rattle.kit.specs.Names.{Bool, cond, List, ℕ, eqb, leb, length}
use Rattle.definitions.specs.ContractFile.{Operator, operator_code}
use Rattle.rules_scopes.specs.declared.Declared.{Declared}

-- An owner's number has a class, and so has the caller's.
pub record HasClass (classes : List ℕ) (owner : ℕ) : Type 0 where
  pub enough : 10 ≤ length classes
  pub there : owner < length classes

abbrev pub fit_codes : Operator → ℕ → ℕ → Bool
fit_codes o left right =
    cond (leb (operator_code o) 6) (eqb left 1 && eqb right 1) (cond (leb (operator_code o) 8) (eqb left right) (eqb left 0 && eqb right 0))

-- The owner of a place, from its field's and its key's name; a tag without a name reads as the caller.
abbrev pub place_number : Declared → ℕ → ℕ
place_number d name = cond d.tagged (cond (eqb name 0) 1 name) d.owner

abbrev pub parts_number : ℕ → ℕ → ℕ
parts_number left right = cond (eqb left 0 && eqb right 0) 0 1
