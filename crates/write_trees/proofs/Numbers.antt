-- Four numbers for each constraint.
use Rattle.std.specs.Prelude.{◌≡◌, ◌∷◌, ◌+◌, ◌*◌}
use Rattle.kit.specs.Names.{refl, List, [], ℕ, arith, length, length-append}
use Rattle.definitions.specs.Rewriting.{Claim, equals, opens_for_caller, Constraint, sizes, claim_trees, guard_number}
use Rattle.write_trees.specs.Numbers.{claim_numbers, constraint_numbers}

claim_length : (n : ℕ) (claim : Claim) → length (claim_numbers n claim) ≡ 3
claim_length n (equals i o circuit) = refl
claim_length n (opens_for_caller i) = refl

pub constraint_numbers_length : (n : ℕ) (cs : List Constraint) → length (constraint_numbers n cs) ≡ 4 * length cs
unfolding constraint_numbers
constraint_numbers_length n [] = refl
constraint_numbers_length n (c ∷ cs) =
    let m = n + sizes (claim_trees c.claim) in
    let tail = constraint_numbers_length m cs in
    let three = claim_length n c.claim in
    let whole = length-append (guard_number c.guard ∷ claim_numbers n c.claim) (constraint_numbers m cs) in
    omega arith
