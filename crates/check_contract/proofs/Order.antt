-- Numbers 1 and 2 first, then 3 to 7 of the decoded sections, then 8 to 15.
use Rattle.std.specs.Prelude.{◌≡◌, ◌||◌, ◌∷◌, ◌<◌}
use Rattle.kit.specs.Names.{refl, ap, sym, ◌∙◌, Bool, true, false, List, [], ℕ, zero, suc, arith, ltb, length}
use Rattle.definitions.specs.Basics.{any, is_zero, first_that_holds}
use Rattle.definitions.specs.ContractFile.{Sections, sections_of, contract_of, field_count, function_count, node_count}
use Rattle.definitions.specs.Numbers.{ends_wrongly, count_off_limits, outside_tables, names_nothing, used_other_than_once, too_deep, wrong_sort, contract_sentences, check_number, or_else}
use Rattle.theory_laws.proofs.TruthValues.{or_left, or_right}
use Rattle.check_03_to_07.specs.Shape.{sections_number}
use Rattle.check_contract.specs.Decoding.{contract_number}

five_then : (c d e f g : Bool) (later : List Bool)
    → first_that_holds 3 (c ∷ d ∷ e ∷ f ∷ g ∷ later) ≡ or_else (first_that_holds 3 (c ∷ d ∷ e ∷ f ∷ g ∷ [])) (first_that_holds 8 later)
unfolding first_that_holds
five_then true d e f g later = refl
five_then false true e f g later = refl
five_then false false true f g later = refl
five_then false false false true g later = refl
five_then false false false false true later = refl
five_then false false false false false later = refl

rules_after : (s : Sections) → contract_number s ≡ or_else (sections_number s) (first_that_holds 8 (contract_sentences (contract_of s)))
unfolding contract_number sections_number
rules_after s = five_then (outside_tables s) (names_nothing s) (used_other_than_once s) (too_deep s) (wrong_sort s) (contract_sentences (contract_of s))

pub refused_by_shape : (s : Sections) (n : ℕ) → n ≡ sections_number s → 0 < n → n ≡ contract_number s
refused_by_shape s zero e h = absurd (omega arith)
refused_by_shape s (suc n) e h = ap (λ k. or_else k (first_that_holds 8 (contract_sentences (contract_of s)))) e ∙ sym (rules_after s)

pub left_to_rules : (s : Sections) (r : ℕ) → sections_number s ≡ 0 → r ≡ first_that_holds 8 (contract_sentences (contract_of s)) → r ≡ contract_number s
left_to_rules s r z q = q ∙ sym (rules_after s ∙ ap (λ k. or_else k (first_that_holds 8 (contract_sentences (contract_of s)))) z)

pub check_after_counts : (file : List ℕ) → ends_wrongly file ≡ false → count_off_limits file ≡ false → check_number file ≡ contract_number (sections_of file)
unfolding check_number contract_number first_that_holds
check_after_counts file ends counts = rw (ends, counts)

-- Number 2 holds of no function's parameters.
pub few_parameters_law : (file : List ℕ) → count_off_limits file ≡ false → any (λ r. ltb 8 (length r.parameters)) (sections_of file).functions ≡ false
unfolding count_off_limits
few_parameters_law file h =
    let three = ltb 64 (field_count file) || is_zero (function_count file) || ltb 16 (function_count file) in
    let many = any (λ r. ltb 8 (length r.parameters)) (sections_of file).functions in
    or_right three many (or_left (three || many) (ltb 512 (node_count file)) h)
