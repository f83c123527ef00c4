-- The bytes made of the numbers of constraints are the constraints' bytes.
use Rattle.std.specs.Prelude.{◌≡◌, ◌∷◌, ◌++◌, ◌+◌, ◌-◌}
use Rattle.kit.specs.Names.{refl, ap, ◌∙◌, List, [], ℕ, suc, length}
use Rattle.definitions.specs.Basics.{two_bytes}
use Rattle.definitions.specs.ContractFile.{owner_code}
use Rattle.definitions.specs.Rewriting.{Claim, equals, opens_for_caller, Constraint, size, sizes, circuit_tree, claim_trees, guard_number, claim_bytes, constraint_bytes}
use Rattle.write_logged_steps.specs.Held.{Holds}
use Rattle.write_trees.specs.Numbers.{claim_numbers, constraint_numbers}
use Rattle.write_circuits.specs.Circuits.{four, six_bytes, sixes_from}
use Rattle.write_circuits.proofs.Held.{four_first, four_second, four_last, four_rest}

module _ (numbers : List ℕ) where
  six_read : (from left a b c d : ℕ) (later : List ℕ) → Holds numbers (four a b c d ++ later) from → sixes_from numbers from (suc left) ≡ six_bytes a b d ++ sixes_from numbers (from + 4) left
  unfolding sixes_from
  six_read from left a b c d later holds =
      rw (four_first numbers later from a b c d holds, four_second numbers later from a b c d holds, four_last numbers later from a b c d holds)

  claim_told : (g : ℕ) (claim : Claim) (n from left : ℕ) (later : List ℕ) → Holds numbers ((g ∷ claim_numbers n claim) ++ later) from
      → (sixes_from numbers from (suc left) ≡ two_bytes g ++ claim_bytes n claim ++ sixes_from numbers (from + 4) left) × Holds numbers later (from + 4)
  claim_told g (equals i o circuit) n from left later holds =
      let root = n + size (circuit_tree circuit) - 1 in
      (six_read from left g i (owner_code o) root later holds, four_rest numbers later from g i (owner_code o) root holds)
  claim_told g (opens_for_caller i) n from left later holds = (six_read from left g i 1 65535 later holds, four_rest numbers later from g i 1 65535 holds)

  pub constraints_told : (cs : List Constraint) (n from : ℕ) → Holds numbers (constraint_numbers n cs) from → sixes_from numbers from (length cs) ≡ constraint_bytes n cs
  unfolding constraint_numbers constraint_bytes sixes_from
  constraints_told [] n from holds = refl
  constraints_told (c ∷ cs) n from holds =
      let m = n + sizes (claim_trees c.claim) in
      let told = claim_told (guard_number c.guard) c.claim n from (length cs) (constraint_numbers m cs) holds in
      told.0 ∙ ap (λ (l : List ℕ). two_bytes (guard_number c.guard) ++ claim_bytes n c.claim ++ l) (constraints_told cs m (from + 4) told.1)
