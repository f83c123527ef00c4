-- 02, Note 3: 131 bytes always suffice for a report. Its numbers have three digits at most: nineteen bytes for the heading, six for the line of a
-- function below 10, seven for that of another, ten for the total.
use Rattle.std.specs.Prelude.{◌≡◌, ◌∷◌, ◌++◌, ◌+◌, ◌*◌, ◌-◌, ◌/◌, ◌%◌, ◌<◌, ◌≤◌}
use Rattle.kit.specs.Names.{refl, ap, ◌∙◌, Bool, true, false, cond, List, [], map, ℕ, zero, suc}
use Rattle.kit.specs.Names.{arith, ltb, length, length-append, length-map, le-ltb, ltb-true, ltb-false}
use Rattle.definitions.specs.Basics.{flat_map, first_that_holds}
use Rattle.definitions.specs.ContractFile.{contract_in, function_count}
use Rattle.definitions.specs.Crossings.{crossings_in}
use Rattle.definitions.specs.Numbers.{check_number, or_else}
use Rattle.definitions.specs.Report.{Tally, sorted, tallies, decimal, digits, heading, tally_line, total_line, report_lines, report_text, report_number}
use Rattle.definitions.specs.Rewriting.{rewrite, written_file}
use Rattle.theory_crossings.specs.Crossings.{crossings, sum}
use Rattle.theory_crossings.proofs.Headings.{counts_are_read}
use Rattle.theory_crossings.proofs.Totals.{total_is_sum}
use Rattle.report_total.proofs.Sums.{sorted_sum}
use Rattle.report_text.proofs.Digits.{digits_one, digits_more}
use Rattle.write_room.proofs.Room.{room_suffices}
use Rattle.write_function_room.specs.Functions.{written_functions}
use Rattle.write_function_room.proofs.Written.{functions_counted_law}
use Rattle.write_function_room.proofs.Room.{functions_few}
use Rattle.report_room.proofs.Largest.{counts_few}

-- How many digits a small number has.
one_digit : (levels n : ℕ) → 0 < levels → n < 10 → length (digits levels n) ≡ 1
one_digit levels n some few = ap length (digits_one levels n some few)

more_digits : (levels n most : ℕ) → 0 < levels → 1 ≤ most → length (digits (levels - 1) (n / 10)) ≤ most → length (digits levels n) ≤ most + 1
more_digits levels n most some one h = go (ltb n 10) refl
  where
    go : (b : Bool) → ltb n 10 ≡ b → length (digits levels n) ≤ most + 1
    go true e = omega (arith, one_digit levels n some (ltb-true n 10 e))
    go false e =
        let more = digits_more levels n some (ltb-false n 10 e) in
        omega (arith, ap length more, length-append (digits (levels - 1) (n / 10)) ((48 + n % 10) ∷ []))

two_digits : (levels n : ℕ) → 1 < levels → n < 100 → length (digits levels n) ≤ 2
two_digits levels n some few = more_digits levels n 1 (omega arith) (omega arith) (omega (arith, one_digit (levels - 1) (n / 10) (omega arith) (omega arith)))

three_digits : (n : ℕ) → n < 1000 → length (decimal n) ≤ 3
three_digits n few = more_digits 20 n 2 (omega arith) (omega arith) (two_digits 19 (n / 10) (omega arith) (omega arith))

-- How long a line is.

line_parts : (t : Tally) → length (tally_line t) ≡ length (decimal t.function) + length (decimal t.count) + 2
line_parts t = simp length-append (omega arith)

-- The lines of functions from number n on, of which k have numbers below 10.
lines_few : (n : ℕ) (counts : List ℕ) (k : ℕ) → n + length counts ≤ 100 → sum counts < 1000 → k ≤ length counts → k ≤ 10 - n
    → sum (map (λ t. length (tally_line t)) (tallies n counts)) + k ≤ 7 * length counts
unfolding sum tallies
lines_few n [] k below few inside small = omega arith
lines_few n (count ∷ counts) zero below few inside small =
    omega (arith, lines_few (suc n) counts 0 (omega arith) (omega arith) (omega arith) (omega arith), line_parts (record { function = n; count = count }), two_digits 20 n (omega arith) (omega arith), three_digits count (omega arith))
lines_few n (count ∷ counts) (suc k) below few inside small =
    omega (arith, lines_few (suc n) counts k (omega arith) (omega arith) (omega arith) (omega arith), line_parts (record { function = n; count = count }), one_digit 20 n (omega arith) (omega arith), three_digits count (omega arith))

flat_length : {A : Type 0} (f : A → List ℕ) (xs : List A) → length (flat_map f xs) ≡ sum (map (λ x. length (f x)) xs)
unfolding flat_map sum
flat_length f [] = refl
flat_length f (x ∷ xs) = length-append (f x) (flat_map f xs) ∙ ap (λ (n : ℕ). length (f x) + n) (flat_length f xs)

report_length_law : (counts : List ℕ) → length counts ≤ 16 → sum counts < 1000 → length (report_lines counts (sum counts)) ≤ 131
report_length_law counts sixteen few =
    let below = length counts - (length counts - 10) in
    let lines = lines_few 0 counts below (omega arith) few (omega arith) (omega arith) in
    let listed = flat_map tally_line (sorted (tallies 0 counts)) in
    let long = flat_length tally_line (sorted (tallies 0 counts)) ∙ sorted_sum (λ t. length (tally_line t)) (tallies 0 counts) in
    let parts = length-append (heading ++ listed) (total_line (sum counts)) in
    let front = length-append heading listed in
    let total = length-append (decimal (sum counts)) (10 ∷ []) in
    omega (arith, three_digits (sum counts) few)

module _ (file : List ℕ) (accepted : check_number file ≡ 0) where
  -- As many counts as there are functions.
  pub counts_many : length (crossings_in (written_file file)) ≡ function_count file
  unfolding written_file
  counts_many =
      ap length (counts_are_read (rewrite (contract_in file)) (omega (arith, room_suffices file accepted)))
      ∙ length-map (written_functions file) crossings ∙ functions_counted_law file

  -- The text is that of the counts and their sum.
  pub text_is : report_text file ≡ report_lines (crossings_in (written_file file)) (sum (crossings_in (written_file file)))
  unfolding report_text
  text_is = ap (report_lines (crossings_in (written_file file))) (total_is_sum (written_file file))

  -- Said apart, for what rests on it here.
  within : length (report_text file) ≤ 131
  within =
      omega (arith, ap length text_is, report_length_law (crossings_in (written_file file)) (omega (arith, counts_many, functions_few file accepted)) (omega (arith, counts_few file accepted)))

  pub text_few : length (report_text file) ≤ 131
  text_few = omega (arith, within)

-- So number 16 is never given in that room: the number of a report is the file's own.
pub report_is_never_short : (file : List ℕ) → report_number file 131 ≡ check_number file
unfolding report_number first_that_holds
report_is_never_short file = go (check_number file) refl
  where
    go : (n : ℕ) → check_number file ≡ n → or_else n (first_that_holds 16 (ltb 131 (length (report_text file)) ∷ [])) ≡ n
    go zero e = ap (λ b. cond {A = ℕ} b 16 0) (le-ltb 131 (length (report_text file)) (within file e))
    go (suc n) e = refl
