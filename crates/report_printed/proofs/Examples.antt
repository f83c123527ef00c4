-- The theorems cited at file A, at a text that they rule out, and where their hypothesis does not hold.
use Rattle.std.specs.Prelude.{◌≡◌, ◌∷◌}
use Rattle.kit.specs.Names.{ap, sym, ◌∙◌, List, [], map, ℕ, arith, length, replicate, get_or, take, drop}
use Rattle.definitions.specs.Crossings.{total_in}
use Rattle.definitions.specs.Report.{report_number}
use Rattle.definitions.specs.Rewriting.{written_file}
use Rattle.definitions.proofs.Cases.{reports, all_pass, by_test}
use Rattle.definitions.proofs.Contracts.{file_a}
use Rattle.theory_crossings.specs.Crossings.{sum}
use Rattle.report_printed.specs.Printed.{lines_of, last_line, lines_above, value_behind, behind_space, number_in, handed_out}
use Rattle.report_printed.proofs.Totals.{refused_hands_nothing, total_counts_the_file, total_sums_the_lines}

-- File A's report, in a room of its 31 bytes.
abbrev room : List ℕ
room = replicate 31 0

abbrev report_of_a : List ℕ
report_of_a =
    102 ∷ 117 ∷ 110 ∷ 99 ∷ 116 ∷ 105 ∷ 111 ∷ 110 ∷ 32 ∷ 99 ∷ 114 ∷ 111 ∷ 115 ∷ 115 ∷ 105 ∷ 110 ∷ 103 ∷ 115 ∷ 10
    ∷ 48 ∷ 32 ∷ 51 ∷ 10 ∷ 116 ∷ 111 ∷ 116 ∷ 97 ∷ 108 ∷ 32 ∷ 51 ∷ 10 ∷ []

record Reported : Type 0 where
  number : report_number file_a (length room) ≡ 0
  text : handed_out file_a room ≡ report_of_a

reported : Reported
unfolding all_pass
reported =
    let answers = by_test (reports file_a room 0 31 report_of_a) tt in
    record {
      number = ap (λ (l : List ℕ). get_or l 0 0) answers;
      text = ap (λ (l : List ℕ). take (get_or l 1 0) (drop 2 l)) answers;
    }

-- "For file A the last line is `total 3`": so its written file has three crossings, counted there.
three_in_file_a : total_in (written_file file_a) ≡ 3
unfolding lines_of value_behind behind_space
three_in_file_a =
    sym (total_counts_the_file file_a room reported.number) ∙ ap (λ (text : List ℕ). number_in (last_line text)) reported.text

-- Functions with 3 and 2 crossings, and a total that leaves the last one out: no report is this text.
abbrev short_total : List ℕ
short_total =
    102 ∷ 117 ∷ 110 ∷ 99 ∷ 116 ∷ 105 ∷ 111 ∷ 110 ∷ 32 ∷ 99 ∷ 114 ∷ 111 ∷ 115 ∷ 115 ∷ 105 ∷ 110 ∷ 103 ∷ 115 ∷ 10
    ∷ 48 ∷ 32 ∷ 51 ∷ 10 ∷ 49 ∷ 32 ∷ 50 ∷ 10 ∷ 116 ∷ 111 ∷ 116 ∷ 97 ∷ 108 ∷ 32 ∷ 51 ∷ 10 ∷ []

last_never_left_out : (file out : List ℕ) → report_number file (length out) ≡ 0 → handed_out file out ≡ short_total → ⊥
unfolding lines_of value_behind behind_space sum
last_never_left_out file out told e =
    let three : number_in (last_line (handed_out file out)) ≡ 3 = ap (λ (text : List ℕ). number_in (last_line text)) e in
    let five : sum (map number_in (lines_above (handed_out file out))) ≡ 5 = ap (λ (text : List ℕ). sum (map number_in (lines_above text))) e in
    omega (arith, total_sums_the_lines file out told)

-- The empty file has number 1, and nothing is handed out: no line, and so no total.
nothing_for_the_empty_file : handed_out [] room ≡ []
unfolding all_pass
nothing_for_the_empty_file =
    let answers = by_test (reports [] room 1 0 room) tt in
    let one : report_number [] (length room) ≡ 1 = ap (λ (l : List ℕ). get_or l 0 0) answers in
    refused_hands_nothing [] room (λ none. omega arith)
