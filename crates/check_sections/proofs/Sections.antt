-- Where sections lie in a file that ends right, and the part that is handed back.
use Rattle.std.specs.Prelude.{◌≡◌, ◌∷◌, ◌+◌, ◌-◌, ◌≤◌}
use Rattle.kit.specs.Names.{refl, sym, ◌∙◌, Bool, true, false, List, [], ℕ, zero, suc, arith, eqb, ltb, length}
use Rattle.kit.specs.Names.{take, drop, length-drop, slice, take_all, eqb-true, ltb-false, not-false, ne_eqb}
use Rattle.definitions.specs.Basics.{first_that_holds}
use Rattle.definitions.specs.ContractFile.{function_end, functions_at, function_count, functions_end, file_end, section_part}
use Rattle.definitions.specs.Reading.{functions_passed, nodes_begin, part_read}
use Rattle.definitions.specs.Numbers.{ends_wrongly, count_off_limits, or_else, section_number, section_answer}
use Rattle.theory_laws.proofs.Records.{force_is}
use Rattle.file_bytes.specs.declared.Layout.{Layout}
use Rattle.file_bytes.specs.Layout.{IsLayout}

functions_end_above : (k : ℕ) (file : List ℕ) (at : ℕ) → at ≤ functions_end k file at
unfolding functions_passed
functions_end_above zero file at = omega arith
functions_end_above (suc k) file at =
    let e = force_is (function_end file at) (functions_end k file) in
    let h = functions_end_above k file (function_end file at) in
    omega arith

-- Where the sections lie in a file that ends right.
module _ (file : List ℕ) (l : Layout) (is : IsLayout file l) where
  pub functions_before_nodes : l.functions_at ≤ l.nodes_at
  unfolding nodes_begin
  functions_before_nodes =
      let h = functions_end_above (function_count file) file (functions_at file + 1) in
      omega (arith, is.functions_start, is.nodes_start)

  pub nodes_within : ends_wrongly file ≡ false → l.nodes_at ≤ length file
  unfolding ends_wrongly
  nodes_within h =
      let e = eqb-true (length file) (file_end file) (not-false (eqb (length file) (file_end file)) h) in
      omega (arith, is.nodes_start, is.nodes)

-- A part of a slice, as code takes it.
take_none : (n : ℕ) → take {A = ℕ} n [] ≡ []
take_none zero = refl
take_none (suc n) = refl

part_is : (f t : ℕ) (l : List ℕ) → take (t - f) (drop f l) ≡ slice f t l
part_is zero t l =
    let e : t - 0 ≡ t = omega arith in
    rw e
part_is (suc f) zero l =
    let e : 0 - suc f ≡ 0 = omega arith in
    rw e
part_is (suc f) (suc t) [] =
    let e : suc t - suc f ≡ t - f = omega arith in
    rw e (take_none (t - f))
part_is (suc f) (suc t) (x ∷ xs) =
    let e : suc t - suc f ≡ t - f = omega arith in
    rw e (part_is f t xs)

rest_is : (f : ℕ) (l : List ℕ) → take (length l - f) (drop f l) ≡ drop f l
rest_is f l = take_all (length l - f) (drop f l) (omega (arith, length-drop f l))

-- A section's number is 0 where none of its sentences holds.
neither_holds : (e c t : Bool) → or_else (first_that_holds 1 (e ∷ c ∷ [])) (first_that_holds 22 (t ∷ [])) ≡ 0 → (e ≡ false) × (t ≡ false)
unfolding first_that_holds
neither_holds true c t h = absurd (omega arith)
neither_holds false true t h = absurd (omega arith)
neither_holds false false true h = absurd (omega arith)
neither_holds false false false h = (refl, refl)

module _ (file : List ℕ) (n number : ℕ) (e : number ≡ section_number file n) where
  pub refused_part : (number ≡ 0 → ⊥) → [] ≡ section_answer file n
  unfolding section_answer
  refused_part ne = rw (← e, ne_eqb number 0 ne)

  module _ (z : number ≡ 0) where
    accepted : (ends_wrongly file ≡ false) × (ltb 2 n ≡ false)
    unfolding section_number
    accepted = neither_holds (ends_wrongly file) (count_off_limits file) (ltb 2 n) (sym e ∙ z)

    pub accepted_ends : ends_wrongly file ≡ false
    accepted_ends = accepted.0

    accepted_part : (part : List ℕ) → part ≡ section_part file n → part ≡ section_answer file n
    unfolding section_answer
    accepted_part part p = rw (← e, z) p

    module _ (l : Layout) (is : IsLayout file l) where
      pub fields_part : n ≡ 0 → take (l.functions_at - 0) file ≡ section_answer file n
      unfolding part_read
      fields_part h = accepted_part _ (part_is 0 l.functions_at file ∙ rw (h, is.functions_start))

      pub functions_part : n ≡ 1 → take (l.nodes_at - l.functions_at) (drop l.functions_at file) ≡ section_answer file n
      unfolding part_read
      functions_part h = accepted_part _ (part_is l.functions_at l.nodes_at file ∙ rw (h, is.functions_start, is.nodes_start))

      pub nodes_part : (n ≡ 0 → ⊥) → (n ≡ 1 → ⊥) → take (length file - l.nodes_at) (drop l.nodes_at file) ≡ section_answer file n
      unfolding part_read
      nodes_part a b =
          let low = ltb-false 2 n accepted.1 in
          let two : n ≡ 2 = omega (arith, a, b) in
          accepted_part _ (rest_is l.nodes_at file ∙ rw (two, is.nodes_start))
