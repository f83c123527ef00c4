-- The law cited at a written contract with a guard among its variables; and what its hypothesis rules out: a count that two bytes don't hold.
use Rattle.std.specs.Prelude.{◌≡◌, ◌∷◌, ◌+◌, ◌*◌, ◌%◌, ◌/◌}
use Rattle.kit.specs.Names.{refl, ap, ap₂, List, [], map, ℕ, zero, suc, arith, length, replicate}
use Rattle.kit.specs.Names.{length-replicate}
use Rattle.definitions.specs.Basics.{count_if, flat_map}
use Rattle.definitions.specs.ContractFile.{Expression, everyone, owned_by, me_name}
use Rattle.definitions.specs.Rewriting.{Variable, supplied, guard, read_from, Command, WrittenContract, sizes, size, command_tree}
use Rattle.definitions.specs.Rewriting.{numbered_all, numbered, each_once, constraint_bytes, function_written, functions_written, contract_written, contract_bytes}
use Rattle.definitions.specs.Crossings.{origins_at, up_to_three, written_function_end, origins_from, origins_in, crossings_in}
use Rattle.theory_laws.proofs.Records.{force_is}
use Rattle.theory_crossings.specs.Crossings.{crossings}
use Rattle.theory_crossings.proofs.Headings.{counts_are_read}

-- A contract of one function, which has these variables and does nothing.
abbrev with_variables : List Variable → WrittenContract
with_variables variables =
    record { fields = []; functions = record { parameters = []; variables = variables; constraints = []; body = Command.skip } ∷ [] }

-- A read cell, a guard, a supplied value: two of the three are counted in the bytes.
guard_not_counted : crossings_in (contract_bytes (with_variables (read_from (owned_by me_name) Expression.me ∷ guard ∷ supplied everyone Expression.me ∷ []))) ≡ 2 ∷ []
unfolding count_if contract_written functions_written function_written flat_map each_once constraint_bytes sizes size command_tree numbered_all numbered
guard_not_counted =
    counts_are_read (with_variables (read_from (owned_by me_name) Expression.me ∷ guard ∷ supplied everyone Expression.me ∷ [])) (omega arith)

-- With 65,536 variables the bytes of their count are 0 and 0, and no origin is read: no law without a bound could hold.
many_not_read : (n : ℕ) → n % 65536 ≡ 0 → crossings_in (contract_bytes (with_variables (replicate n (supplied everyone Expression.me)))) ≡ 0 ∷ []
unfolding contract_written functions_written function_written flat_map count_if crossings_in origins_in origins_from origins_at
many_not_read n h =
    let vs : List Variable = replicate n (supplied everyone Expression.me) in
    let long : length vs ≡ n = length-replicate n (supplied everyone Expression.me) in
    let none : length vs % 256 + 256 * (length vs / 256 % 256) ≡ 0 = omega arith in
    let written = contract_bytes (with_variables vs) in
    ap (map up_to_three)
    (ap₂ (λ (a : List ℕ) (l : List (List ℕ)). a ∷ l) (ap (λ (k : ℕ). origins_at k written 5) none)
    (force_is (written_function_end written 2) (origins_from 0 written)))

all_crossings : (n : ℕ) → crossings (record { parameters = []; variables = replicate n (supplied everyone Expression.me); constraints = []; body = Command.skip }) ≡ n
unfolding count_if
all_crossings zero = refl
all_crossings (suc n) = let h = all_crossings n in omega arith
