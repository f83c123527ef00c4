-- 01, Runs and views: "Pair by pair, both calls are refused or both are taken (done or failed) and alike for the party": calls that are
-- alike, and calls that are not. Demand 3 is the stronger the more pairs it is about.
use mathlib.Core.Path.{◌≡◌, refl, ap, sym, ◌∙◌}
use mathlib.Core.Bool.{true, false, not, ◌||◌, false≢true}
use mathlib.Core.List.{[], ◌∷◌}
use Prim.Native.Nat.{ℕ, zero, suc}
use lib.Dec.{eqb}
use lib.ListN.{get_or}
use Rattle.definitions.specs.ContractFile.{uint, skip, Contract, Function, parameter_at}
use Rattle.definitions.specs.View.{Run, run_at_deployment, is_taken, AlikeFor, Paired, both_refused, both_taken, finished}
use Rattle.definitions.proofs.Cases.{is_taken_or_not, all_pass, by_test}
use Rattle.definitions.proofs.Contracts.{file_a, request}

-- Two functions of a private and a public uint.
abbrev of_two : Function
of_two = record { parameters = record { type = uint; private = true } ∷ record { type = uint; private = false } ∷ []; body = skip }

abbrev contract_of_two : Contract
contract_of_two = record { fields = []; functions = of_two ∷ of_two ∷ [] }

-- "Other arguments are free.": for a party that is not the caller the private ones are.
pub private_arguments_free : AlikeFor 4 contract_of_two (request 0 3 (7 ∷ 1 ∷ [])) (request 0 3 (8 ∷ 1 ∷ []))
private_arguments_free = record { function = refl; caller = refl; arguments = same }
  where
    same : (k : ℕ) → not (parameter_at of_two.parameters k).private || eqb 3 4 ≡ true
        → ◌≡◌ {A = ℕ} (get_or (7 ∷ 1 ∷ []) k 0) (get_or (8 ∷ 1 ∷ []) k 0)
    same zero e = absurd (false≢true e)
    same (suc zero) e = refl
    same (suc (suc k)) e = refl

-- "same function, caller, arguments for public parameters and, if the party is the caller, for private ones"
pub function_fixed : AlikeFor 4 contract_of_two (request 0 3 (7 ∷ 1 ∷ [])) (request 1 3 (7 ∷ 1 ∷ [])) → ⊥
function_fixed alike = false≢true (ap (eqb 1) alike.function)

pub caller_fixed : AlikeFor 4 contract_of_two (request 0 3 (7 ∷ 1 ∷ [])) (request 0 5 (7 ∷ 1 ∷ [])) → ⊥
caller_fixed alike = false≢true (ap (eqb 5) alike.caller)

pub public_arguments_fixed : AlikeFor 4 contract_of_two (request 0 3 (7 ∷ 1 ∷ [])) (request 0 3 (7 ∷ 2 ∷ [])) → ⊥
public_arguments_fixed alike = false≢true (ap (eqb 2) (alike.arguments 1 refl))

pub own_arguments_fixed : AlikeFor 3 contract_of_two (request 0 3 (7 ∷ 1 ∷ [])) (request 0 3 (8 ∷ 1 ∷ [])) → ⊥
own_arguments_fixed alike = false≢true (ap (eqb 8) (alike.arguments 0 refl))

-- On file A with h at address 5: the first call is taken, the second refused (18).
abbrev start : Run
start = run_at_deployment file_a (5 ∷ [])

taken : is_taken start (request 0 3 (7 ∷ [])) ≡ true
unfolding all_pass
taken = by_test (is_taken_or_not file_a (5 ∷ []) (request 0 3 (7 ∷ [])) true) tt

refused : is_taken start (request 0 16 (7 ∷ [])) ≡ false
unfolding all_pass
refused = by_test (is_taken_or_not file_a (5 ∷ []) (request 0 16 (7 ∷ [])) false) tt

refused_by_19 : is_taken start (request 0 4 []) ≡ false
unfolding all_pass
refused_by_19 = by_test (is_taken_or_not file_a (5 ∷ []) (request 0 4 []) false) tt

-- Two refused calls need not be alike.
pub refused_together : Paired 4 start start (request 0 16 (7 ∷ []) ∷ []) (request 0 4 [] ∷ [])
refused_together = both_refused refused refused_by_19 finished

-- One refused and one taken are no pair, nor are lists of different lengths.
pub one_refused : Paired 4 start start (request 0 3 (7 ∷ []) ∷ []) (request 0 16 (7 ∷ []) ∷ []) → ⊥
one_refused (both_refused e e' pairs) = false≢true (sym e ∙ taken)
one_refused (both_taken e e' alike pairs) = false≢true (sym refused ∙ e')

pub other_refused : Paired 4 start start (request 0 16 (7 ∷ []) ∷ []) (request 0 3 (7 ∷ []) ∷ []) → ⊥
other_refused (both_refused e e' pairs) = false≢true (sym e' ∙ taken)
other_refused (both_taken e e' alike pairs) = false≢true (sym refused ∙ e)

pub one_longer : Paired 4 start start [] (request 0 3 (7 ∷ []) ∷ []) → ⊥
one_longer pairs = elim pairs [ ]
