-- A function's constraints as flat numbers: guard, variable, owner code and root of each.
use Rattle.std.specs.Prelude.{◌∷◌, ◌++◌, ◌+◌, ◌-◌}
use Rattle.kit.specs.Names.{List, [], ℕ}
use Rattle.definitions.specs.ContractFile.{owner_code}
use Rattle.definitions.specs.Rewriting.{Claim, equals, opens_for_caller, Constraint, size, sizes, circuit_tree, claim_trees, guard_number}

abbrev pub claim_numbers : ℕ → Claim → List ℕ
claim_numbers n (equals i o circuit) = i ∷ owner_code o ∷ (n + size (circuit_tree circuit) - 1) ∷ []
claim_numbers n (opens_for_caller i) = i ∷ 1 ∷ 65535 ∷ []

-- The constraints' first node has number n.
unfoldable pub constraint_numbers : ℕ → List Constraint → List ℕ
constraint_numbers n [] = []
constraint_numbers n (c ∷ cs) =
    (guard_number c.guard ∷ claim_numbers n c.claim) ++ constraint_numbers (n + sizes (claim_trees c.claim)) cs
