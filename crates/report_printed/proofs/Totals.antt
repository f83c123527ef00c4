-- 02, Note 3: of the number that is printed behind `total`: it "must equal the number of variables with origins 0 to 3 in the written file, counted
-- there, and also the sum of the lines above". "a refused file prints no total".
use Rattle.std.specs.Prelude.{◌≡◌, ◌∷◌, ◌++◌, ◌+◌, ◌-◌, ◌^◌, ◌<◌}
use Rattle.kit.specs.Names.{refl, ap, ap₂, sym, ◌∙◌, Bool, cond, List, [], map, append_assoc, ℕ, zero, suc}
use Rattle.kit.specs.Names.{arith, length, get_or, take, drop, length-append, take_at, eq-eqb, ne_eqb}
use Rattle.definitions.specs.Basics.{all, flat_map}
use Rattle.definitions.specs.Crossings.{crossings_in, total_in}
use Rattle.definitions.specs.Numbers.{check_number, or_else}
use Rattle.definitions.specs.Report.{Tally, sorted, tallies, decimal, tally_line, total_line, heading, report_text, report_number, report_length, output_after_report, refused_line}
use Rattle.definitions.specs.Rewriting.{written_file}
use Rattle.theory_crossings.specs.Crossings.{sum}
use Rattle.theory_crossings.proofs.Totals.{total_is_sum}
use Rattle.report_total.specs.Totals.{total_of}
use Rattle.report_total.proofs.Sums.{lines_total}
use Rattle.report_room.proofs.Largest.{largest_total}
use Rattle.report_printed.specs.Printed.{lines_of, last_line, lines_above, behind_space, number_in, total_word, refused_word, handed_out}
use Rattle.report_printed.proofs.Reading.{Above, above_all, line_of, count_read, digits_read, lines_read, word_read}

-- The first line, the lines of some functions, the last line.
module _ (first : List ℕ) (ts : List Tally) (last : List ℕ) (text : List ℕ) (are : lines_of text ≡ first ∷ (map line_of ts ++ (last ∷ []))) where
  lines_many : length (lines_of text) ≡ 2 + length (map line_of ts)
  lines_many = ap length are ∙ ap suc (length-append (map line_of ts) (last ∷ [])) ∙ omega arith

  get_or_last : (front : List (List ℕ)) (x : List ℕ) → get_or (front ++ (x ∷ [])) (length front) [] ≡ x
  get_or_last [] x = refl
  get_or_last (y ∷ front) x = get_or_last front x

  last_is : last_line text ≡ last
  last_is =
      let here : length (lines_of text) - 1 ≡ suc (length (map line_of ts)) = omega (arith, lines_many) in
      ap₂ (λ (ls : List (List ℕ)) (n : ℕ). get_or ls n []) are here ∙ get_or_last (map line_of ts) last

  above_are : lines_above text ≡ map line_of ts
  above_are =
      let many : length (lines_of text) - 2 ≡ length (map line_of ts) = omega (arith, lines_many) in
      ap₂ (λ (n : ℕ) (ls : List (List ℕ)). take n (drop 1 ls)) many are ∙ take_at (map line_of ts) (last ∷ []) (length (map line_of ts)) refl

-- The counts read from their lines.
counts_read : (ts : List Tally) → total_of ts < 10 ^ 20 → sum (map number_in (map line_of ts)) ≡ total_of ts
unfolding sum
counts_read [] few = refl
counts_read (t ∷ ts) few = ap₂ (λ (a b : ℕ). a + b) (count_read t (omega arith)) (counts_read ts (omega arith))

module _ (file : List ℕ) (out : List ℕ) where
  -- Where the file is refused, or the room too short, nothing is handed out.
  pub refused_hands_nothing : (report_number file (length out) ≡ 0 → ⊥) → handed_out file out ≡ []
  unfolding report_length
  refused_hands_nothing refused = ap (λ (b : Bool). take (cond b (length (report_text file)) 0) (output_after_report file out)) (ne_eqb (report_number file (length out)) 0 refused)

  module _ (told : report_number file (length out) ≡ 0) where
    text_handed : handed_out file out ≡ report_text file
    unfolding report_length output_after_report
    text_handed =
        let test = eq-eqb (report_number file (length out)) 0 told in
        ap (λ (b : Bool). take (cond b (length (report_text file)) 0) (cond b (report_text file ++ drop (length (report_text file)) out) out)) test
        ∙ take_at (report_text file) (drop (length (report_text file)) out) (length (report_text file)) refl

    accepted : check_number file ≡ 0
    unfolding report_number
    accepted = go (check_number file) _ told
      where
        go : (n later : ℕ) → or_else n later ≡ 0 → n ≡ 0
        go zero later h = refl
        go (suc n) later h = h

    abbrev counts : List ℕ
    counts = crossings_in (written_file file)

    abbrev total : ℕ
    total = total_in (written_file file)

    abbrev lines : List Tally
    lines = sorted (tallies 0 counts)

    abbrev first_line : List ℕ
    first_line = take 18 heading

    word_above : Above 31 total_word
    unfolding all
    word_above = above_all 31 total_word refl

    text_lines : lines_of (handed_out file out) ≡ first_line ∷ (map line_of lines ++ ((total_word ++ decimal total) ∷ []))
    unfolding report_text lines_of
    text_lines =
        ap lines_of text_handed ∙ ap lines_of (append_assoc heading (flat_map tally_line lines) (total_line total))
        ∙ ap (λ (ls : List (List ℕ)). first_line ∷ ls)
        (lines_read lines (total_line total) ∙ ap (λ (ls : List (List ℕ)). map line_of lines ++ ls) (word_read total_word total word_above))

    -- "After the last line print `total` and a number."
    pub total_stands_last : take 6 (last_line (handed_out file out)) ≡ total_word
    total_stands_last = ap (take 6) (last_is first_line lines (total_word ++ decimal total) (handed_out file out) text_lines)

    total_read : number_in (last_line (handed_out file out)) ≡ total
    unfolding behind_space
    total_read =
        ap number_in (last_is first_line lines (total_word ++ decimal total) (handed_out file out) text_lines)
        ∙ digits_read 20 total (omega (arith, largest_total file accepted))

    -- "the number of variables with origins 0 to 3 in the written file, counted there"
    pub total_counts_the_file : number_in (last_line (handed_out file out)) ≡ total_in (written_file file)
    total_counts_the_file = total_read

    -- "the sum of the lines above"
    pub total_sums_the_lines : number_in (last_line (handed_out file out)) ≡ sum (map number_in (lines_above (handed_out file out)))
    total_sums_the_lines =
        let summed = total_is_sum (written_file file) ∙ sym (lines_total counts) in
        total_read ∙ summed ∙ sym (counts_read lines (omega (arith, largest_total file accepted)))
        ∙ ap (λ (ls : List (List ℕ)). sum (map number_in ls)) (sym (above_are first_line lines (total_word ++ decimal total) (handed_out file out) text_lines))

-- What is printed for a refused file: one line, whose first word is another.
pub refused_prints_no_total : (n : ℕ) → lines_of (refused_line n) ≡ (refused_word ++ decimal n) ∷ []
unfolding all
refused_prints_no_total n = word_read refused_word n (above_all 31 refused_word refl)
