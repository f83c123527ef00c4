-- Writing and reporting a recorded file, held against its record.
use Rattle.std.specs.Prelude.{◌≡◌, ◌&&◌, ◌∷◌, ◌++◌, ◌+◌, ◌-◌, ◌<◌, ◌≤◌}
use Rattle.kit.specs.Names.{refl, ap, sym, subst, ◌∙◌, Bool, true, false, cond, not, List, [], ℕ, zero, suc}
use Rattle.kit.specs.Names.{arith, zero-add, eqb, ltb, length, take, drop, eq-eqb, ne_eqb, lt-ltb, le-ltb, ltb-true, le-leb}
use Rattle.kit.specs.Names.{lt-leb}
use Rattle.definitions.specs.Basics.{is_zero, first_that_holds, count_if}
use Rattle.definitions.specs.ContractFile.{byte_at, two_bytes_at}
use Rattle.definitions.specs.Numbers.{check_number, or_else}
use Rattle.definitions.specs.Report.{report_text, report_number, report_length, output_after_report, refused_line}
use Rattle.definitions.specs.Rewriting.{written_file, write_number, written_length, output_after_writing}
use Rattle.theory_laws.proofs.Rooms.{within_room}
use Rattle.memory_buffer.specs.Buffer.{stored}
use Rattle.memory_append.specs.Append.{Appended}
use Rattle.report_text.proofs.Lines.{refused_length}
use Rattle.report_room.proofs.Room.{text_few}
use Rattle.rehearse_scripts.specs.Scripts.{part}
use Rattle.test_shared.specs.Bytes.{same_bytes}
use Rattle.test_shared.proofs.Bytes.{lengths_differ, same_equal, same_itself}
use Rattle.test_programs.specs.Outputs.{unwritten, output_with, is_answer, writes_in}
use Rattle.test_programs.specs.Records.{starts, starts_from}
use Rattle.test_programs.specs.FileRecords.{part_end, written_end, record_end, is_written_as, is_reported_as, file_agrees, is_whole, record_agrees, FilesTally}
use Rattle.test_programs.proofs.Records.{starts_left, count_next, count_last, count_done}
use Rattle.test_programs.proofs.Outputs.{unwritten_length, drop_unwritten, take_unwritten, handed, output_more, given_answer}

pub part_ends_law : (s : List ℕ) (at n : ℕ) → n ≡ two_bytes_at s at → at + 2 + n ≡ part_end s at
unfolding part_end
part_ends_law s at n e = ap (λ (m : ℕ). at + 2 + m) e

pub part_further : (s : List ℕ) (at : ℕ) → at + 2 ≤ part_end s at
unfolding part_end
part_further s at = omega arith

cond_length : (b : Bool) (l : List ℕ) → cond b (length l) 0 ≡ length (cond b l [])
cond_length true l = refl
cond_length false l = refl

-- Refusals of a file go before that of the room, as document 01 has it for writing and for its report.
refused_first : (own k later : ℕ) → own ≡ k → (k ≡ 0 → ⊥) → or_else own later ≡ k
refused_first own zero later e refused = absurd (refused refl)
refused_first own (suc k) later e refused = ap (λ (n : ℕ). or_else n later) e

-- What an entry gives, of the bytes that it can give: all of them where its number is 0, otherwise none.
abbrev given : ℕ → List ℕ → List ℕ
given number bytes = cond (is_zero number) bytes []

nothing_given : (number k : ℕ) (bytes : List ℕ) → number ≡ k → (k ≡ 0 → ⊥) → true ≡ (eqb number k && same_bytes (given number bytes) [])
nothing_given number k bytes e refused =
    rw (eq-eqb number k e, ne_eqb number 0 (λ z. refused (sym e ∙ z))) (sym (same_itself []))

-- An entry on an output that nothing is written to.
module _ (whole : List ℕ) (number_in : ℕ → ℕ) (n : ℕ) (held : List ℕ) (filled : held ≡ unwritten n) where
  held_long : length held ≡ n
  held_long = ap length filled ∙ unwritten_length n

  entry_long : (long : ℕ) → long ≡ cond (is_zero (number_in (length held))) (length whole) 0 → long ≡ length (given (number_in n) whole)
  entry_long long e =
      e ∙ ap (λ (m : ℕ). cond (is_zero (number_in m)) (length whole) 0) held_long ∙ cond_length (is_zero (number_in n)) whole

  entry_output : (out : List ℕ) → out ≡ cond (is_zero (number_in (length held))) (whole ++ drop (length whole) held) held
      → out ≡ output_with (given (number_in n) whole) n
  entry_output out e =
      e ∙ ap (λ (m : ℕ). cond (is_zero (number_in m)) (whole ++ drop (length whole) held) held) held_long
      ∙ ap (λ (l : List ℕ). cond (is_zero (number_in n)) (whole ++ drop (length whole) l) l) filled ∙ handed (is_zero (number_in n)) whole n

-- Writing, into the front of an output.
module _ (file : List ℕ) (n room : ℕ) (inside : room ≤ n) where
  abbrev writing : List ℕ
  writing = given (write_number file room) (written_file file)

  written_fits : length writing ≤ room
  unfolding write_number
  written_fits =
      let fits = within_room (check_number file) 15 room (length (written_file file)) in
      omega (arith, cond_length (is_zero (write_number file room)) (written_file file))

  module _ (held front : List ℕ) (number long : ℕ) (filled : held ≡ unwritten n)
      (numbered : number ≡ write_number file (length (take room held))) (counted : long ≡ written_length file (length (take room held)))
      (left : front ≡ output_after_writing file (take room held)) where
    lent : take room held ≡ unwritten room
    lent = ap (take room) filled ∙ take_unwritten room n inside

    output_after : front ++ drop room held ≡ output_with writing n
    unfolding output_after_writing
    output_after =
        ap (λ (l : List ℕ). l ++ drop room held) (entry_output (written_file file) (write_number file) room (take room held) lent front left)
        ∙ ap (λ (l : List ℕ). output_with writing room ++ l) (ap (drop room) filled ∙ drop_unwritten room n)
        ∙ output_more writing room n written_fits inside

    pub written_answer : (r : Bool) (due : ℕ) (bytes : List ℕ) → r ≡ is_answer number long (front ++ drop room held) due bytes
        → r ≡ (eqb (write_number file room) due && same_bytes writing bytes)
    unfolding written_length
    written_answer r due bytes =
        given_answer n writing bytes (omega (arith, written_fits)) (write_number file room) due number long (front ++ drop room held) r
        (numbered ∙ ap (write_number file) (held_long (written_file file) (write_number file) room (take room held) lent))
        (entry_long (written_file file) (write_number file) room (take room held) lent long counted) output_after

-- That answer, held against the record.
module _ (file written : List ℕ) (room number : ℕ) (checked : check_number file ≡ number) (r : Bool) where
  abbrev answers : ℕ → List ℕ → Type 0
  answers due bytes = r ≡ (eqb (write_number file room) due && same_bytes (given (write_number file room) (written_file file)) bytes)

  pub refused_written : (number ≡ 0 → ⊥) → answers number [] → r ≡ writes_in file number written room
  unfolding writes_in write_number
  refused_written refused e =
      e
      ∙ sym (nothing_given (write_number file room) number (written_file file) (refused_first (check_number file) number _ checked refused) refused)
      ∙ rw (ne_eqb number 0 refused)

  module _ (accepted : number ≡ 0) where
    own_number : write_number file room ≡ cond (ltb room (length (written_file file))) 16 0
    unfolding write_number first_that_holds
    own_number = ap (λ (n : ℕ). or_else n (first_that_holds 16 (ltb room (length (written_file file)) ∷ []))) (checked ∙ accepted)

    abbrev with : ℕ → List ℕ → Bool → Bool
    with due bytes short = eqb (cond short 16 0) due && same_bytes (given (cond short 16 0) (written_file file)) bytes

    answers_with : (due : ℕ) (bytes : List ℕ) → answers due bytes → r ≡ with due bytes (ltb room (length (written_file file)))
    answers_with due bytes e = e ∙ ap (λ (n : ℕ). eqb n due && same_bytes (given n (written_file file)) bytes) own_number

    short_is : (short : Bool) → with 16 [] short ≡ short
    short_is true = same_itself []
    short_is false = refl

    long_is : (short : Bool) → length written ≤ room → ltb room (length (written_file file)) ≡ short → with 0 written short ≡ same_bytes (written_file file) written
    long_is true fits e =
        lengths_differ (written_file file) written (λ h. omega (arith, ltb-true room (length (written_file file)) e))
    long_is false fits e = refl

    pub short_written : room < length written → answers 16 [] → r ≡ writes_in file number written room
    unfolding writes_in
    short_written less e =
        answers_with 16 [] e ∙ short_is (ltb room (length (written_file file))) ∙ rw (eq-eqb number 0 accepted, lt-ltb room (length written) less)

    pub long_written : length written ≤ room → answers 0 written → r ≡ writes_in file number written room
    unfolding writes_in
    long_written fits e =
        answers_with 0 written e ∙ long_is (ltb room (length (written_file file))) fits refl
        ∙ rw (eq-eqb number 0 accepted, le-ltb room (length written) fits)

-- Writing in three rooms: the last of them, one byte less than the recorded file has, adds nothing to the others.
module _ (file written : List ℕ) (number : ℕ) where
  pub too_long : 49152 < length written → false ≡ is_written_as file number written
  unfolding is_written_as
  too_long h = rw (lt-leb (length written) 49152 h)

  pub enough : (room : ℕ) → length written ≤ room → length written ≤ 49152 → writes_in file number written room ≡ is_written_as file number written
  unfolding writes_in is_written_as
  enough room fits few = rw (le-ltb room (length written) fits, le-leb (length written) 49152 few)

  module _ (some : 0 < length written) where
    shorter : (z : Bool) → cond z (cond (ltb (length written) (length written)) (ltb (length written) (length (written_file file))) (same_bytes (written_file file) written)) true ≡ true
        → cond z (cond (ltb (length written - 1) (length written)) (ltb (length written - 1) (length (written_file file))) (same_bytes (written_file file) written)) true ≡ true
    shorter false e = refl
    shorter true e =
        let same : same_bytes (written_file file) written ≡ true = rw (le-ltb (length written) (length written) (omega arith)) at e in
        let long = ap length (same_equal (written_file file) written same) in
        rw
        (lt-ltb (length written - 1) (length written) (omega arith), lt-ltb (length written - 1) (length (written_file file)) (omega arith))

    pub one_less : (r : Bool) → length written ≤ 49152 → writes_in file number written (length written) ≡ true
        → r ≡ writes_in file number written (length written - 1) → r ≡ is_written_as file number written
    unfolding writes_in
    one_less r few all e = e ∙ shorter (is_zero number) all ∙ sym all ∙ enough (length written) (omega arith) few

-- Reporting.
module _ (file : List ℕ) (n : ℕ) (held out : List ℕ) (number long : ℕ) (filled : held ≡ unwritten n)
    (numbered : number ≡ report_number file (length held)) (counted : long ≡ report_length file (length held))
    (left : out ≡ output_after_report file held) where
  abbrev reporting : List ℕ
  reporting = given (report_number file n) (report_text file)

  reported_fits : length reporting ≤ n
  unfolding report_number
  reported_fits =
      let fits = within_room (check_number file) 15 n (length (report_text file)) in
      omega (arith, cond_length (is_zero (report_number file n)) (report_text file))

  report_after : out ≡ output_with reporting n
  unfolding output_after_report
  report_after = entry_output (report_text file) (report_number file) n held filled out left

  reported_answer : (r : Bool) (due : ℕ) (bytes : List ℕ) → r ≡ is_answer number long out due bytes
      → r ≡ (eqb (report_number file n) due && same_bytes reporting bytes)
  unfolding report_length
  reported_answer r due bytes =
      given_answer n reporting bytes reported_fits (report_number file n) due number long out r
      (numbered ∙ ap (report_number file) (held_long (report_text file) (report_number file) n held filled))
      (entry_long (report_text file) (report_number file) n held filled long counted) report_after

  module _ (own : ℕ) (checked : check_number file ≡ own) where
    pub accepted_report : (r : Bool) (text : List ℕ) → own ≡ 0 → 131 ≤ n → r ≡ is_answer number long out 0 text → r ≡ is_reported_as file own text
    unfolding is_reported_as report_number first_that_holds
    accepted_report r text accepted room e =
        let clear : report_number file n ≡ 0 =
        ap (λ (m : ℕ). or_else m (first_that_holds 16 (ltb n (length (report_text file)) ∷ []))) (checked ∙ accepted)
        ∙ ap (λ (b : Bool). cond {A = ℕ} b 16 0) (le-ltb n (length (report_text file)) (omega (arith, text_few file (checked ∙ accepted)))) in
        reported_answer r 0 text e
        ∙ ap (λ (m : ℕ). eqb m 0 && same_bytes (given m (report_text file)) text) clear
        ∙ ap (λ (b : Bool). same_bytes (cond b (report_text file) (refused_line own)) text) (sym (eq-eqb own 0 accepted))

    module _ (refused : own ≡ 0 → ⊥) where
      report_number_law : report_number file n ≡ own
      unfolding report_number
      report_number_law = refused_first (check_number file) own _ checked refused

      pub refused_report : (r : Bool) → r ≡ is_answer number long out own [] → r ≡ true
      refused_report r e =
          reported_answer r own [] e ∙ sym (nothing_given (report_number file n) own (report_text file) report_number_law refused)

      untouched : out ≡ unwritten n
      unfolding output_with
      untouched =
          let all : n - 0 ≡ n = omega arith in
          report_after ∙ ap (λ (b : Bool). output_with (cond b (report_text file) []) n) (ne_eqb (report_number file n) 0 (λ z. refused (sym report_number_law ∙ z)))
          ∙ ap unwritten all

      pub refused_told : (after text : List ℕ) (end : ℕ) (r : Bool) → 29 ≤ n → Appended out after 0 (refused_line own) end
          → r ≡ is_answer own end after own text → r ≡ is_reported_as file own text
      unfolding is_reported_as output_with stored
      refused_told after text end r room a e =
          let long : 0 + length (refused_line own) ≡ length (refused_line own) = omega arith in
          given_answer n (refused_line own) text (omega (arith, refused_length own)) own own own end after r refl (a.place ∙ long)
          (a.contents ∙ ap (λ (l : List ℕ). stored l 0 (refused_line own)) untouched
          ∙ ap (λ (m : ℕ). refused_line own ++ drop m (unwritten n)) long
          ∙ ap (λ (l : List ℕ). refused_line own ++ l) (drop_unwritten (length (refused_line own)) n))
          e
          ∙ ap (λ (b : Bool). b && same_bytes (refused_line own) text) (eq-eqb own own refl)
          ∙ ap (λ (b : Bool). same_bytes (cond b (report_text file) (refused_line own)) text) (sym (ne_eqb own 0 refused))

-- The file's number, what is written and what is reported.
module _ (file written text : List ℕ) (number : ℕ) where
  pub other_file : (n : ℕ) → n ≡ check_number file → (n ≡ number → ⊥) → false ≡ file_agrees file number written text
  unfolding file_agrees
  other_file n e differs = rw (ne_eqb (check_number file) number (λ h. differs (e ∙ h)))

  module _ (checked : check_number file ≡ number) (w : Bool) (is : w ≡ is_written_as file number written) where
    pub other_writing : w ≡ false → false ≡ file_agrees file number written text
    unfolding file_agrees
    other_writing e = rw (eq-eqb (check_number file) number checked, ← is, e)

    pub same_file_law : w ≡ true → (r : Bool) → r ≡ is_reported_as file number text → r ≡ file_agrees file number written text
    unfolding file_agrees
    same_file_law e r told = rw (eq-eqb (check_number file) number checked, ← is, e) told

-- Record by record.
module _ (s : List ℕ) where
  further : (at : ℕ) → at < record_end s at
  further at = omega (arith, part_further s at, part_further s (part_end s at + 1), part_further s (written_end s at))

  abbrev pub differs : ℕ → Bool
  differs at = not (record_agrees s at)

  -- What is counted so far, and what is left to count.
  pub record Counting (at records different : ℕ) : Type 0 where
    pub wholes : records + count_if (is_whole s) (starts_left (record_end s) (length s) at) ≡ count_if (is_whole s) (starts (record_end s) (length s))
    pub others : different + count_if differs (starts_left (record_end s) (length s) at) ≡ count_if differs (starts (record_end s) (length s))

  pub counting_start : Counting 0 0 0
  counting_start =
      let all : length s - 0 ≡ length s = omega arith in
      record {
        wholes = ap (λ (n : ℕ). 0 + count_if (is_whole s) (starts_from (record_end s) (length s) n 0)) all ∙ zero-add _;
        others = ap (λ (n : ℕ). 0 + count_if differs (starts_from (record_end s) (length s) n 0)) all ∙ zero-add _;
      }

  module _ (at records different : ℕ) (so_far : Counting at records different) where
    pub counting_done : length s ≤ at → FilesTally s (record { records = records; different = different })
    counting_done h =
        record {
          records = count_done (record_end s) (length s) further (is_whole s) records _ at so_far.wholes h;
          different = count_done (record_end s) (length s) further differs different _ at so_far.others h;
        }

    -- The ends of its three parts, as they are read.
    module _ (file_end behind_written end : ℕ) (first : file_end ≡ part_end s at) (second : behind_written ≡ part_end s (file_end + 1))
        (third : end ≡ part_end s behind_written) (inside : at < length s) where
      second_end : behind_written ≡ written_end s at
      second_end = second ∙ ap (λ (n : ℕ). part_end s (n + 1)) first

      whole_end : end ≡ record_end s at
      whole_end = third ∙ ap (part_end s) second_end

      pub counting_cut : length s < end → FilesTally s (record { records = records; different = different + 1 })
      unfolding record_agrees
      counting_cut cut =
          let short : is_whole s at ≡ false = lt-leb (record_end s at) (length s) (omega (arith, whole_end)) in
          let wholes = count_last (record_end s) (length s) further (is_whole s) records _ at so_far.wholes inside (omega (arith, whole_end)) in
          let others = count_last (record_end s) (length s) further differs different _ at so_far.others inside (omega (arith, whole_end)) in
          record {
            records = let same : records ≡ records + 0 = omega arith in same ∙ ap (λ (b : Bool). records + cond b 1 0) (sym short) ∙ wholes;
            different = ap
                (λ (b : Bool). different + cond (not (b && file_agrees (part (at + 2) (part_end s at) s) (byte_at s (part_end s at))
                (part (part_end s at + 3) (written_end s at) s) (part (written_end s at + 2) (record_end s at) s))) 1 0)
                (sym short) ∙ others;
          }

      module _ (fits : end ≤ length s) (a : Bool)
          (is : a ≡ file_agrees (part (at + 2) file_end s) (byte_at s file_end) (part (file_end + 3) behind_written s) (part (behind_written + 2) end s)) where
        is_whole_law : is_whole s at ≡ true
        is_whole_law = le-leb (record_end s at) (length s) (omega (arith, whole_end))

        agrees_is : a ≡ record_agrees s at
        unfolding record_agrees
        agrees_is =
            is
            ∙ ap (λ (n : ℕ). file_agrees (part (at + 2) n s) (byte_at s n) (part (n + 3) behind_written s) (part (behind_written + 2) end s)) first
            ∙ ap (λ (n : ℕ). file_agrees (part (at + 2) (part_end s at) s) (byte_at s (part_end s at)) (part (part_end s at + 3) n s) (part (n + 2) end s)) second_end
            ∙ ap
            (λ (n : ℕ). file_agrees (part (at + 2) (part_end s at) s) (byte_at s (part_end s at)) (part (part_end s at + 3) (written_end s at) s)
            (part (written_end s at + 2) n s)) whole_end
            ∙ ap
            (λ (b : Bool). b && file_agrees (part (at + 2) (part_end s at) s) (byte_at s (part_end s at))
            (part (part_end s at + 3) (written_end s at) s) (part (written_end s at + 2) (record_end s at) s))
            (sym is_whole_law)

        counting_next : Counting end (records + 1) (different + cond (not a) 1 0)
        counting_next =
            record {
              wholes = ap (λ (n : ℕ). records + 1 + count_if (is_whole s) (starts_left (record_end s) (length s) n)) whole_end
                  ∙ ap (λ (b : Bool). records + cond b 1 0 + count_if (is_whole s) (starts_left (record_end s) (length s) (record_end s at))) (sym is_whole_law)
                  ∙ count_next (record_end s) (length s) further (is_whole s) records _ at so_far.wholes inside;
              others = ap (λ (n : ℕ). different + cond (not a) 1 0 + count_if differs (starts_left (record_end s) (length s) n)) whole_end
                  ∙ ap (λ (b : Bool). different + cond (not b) 1 0 + count_if differs (starts_left (record_end s) (length s) (record_end s at))) agrees_is
                  ∙ count_next (record_end s) (length s) further differs different _ at so_far.others inside;
            }

        pub counting_same : a ≡ true → Counting end (records + 1) different
        counting_same e =
            let none : different + 0 ≡ different = omega arith in
            subst (λ (n : ℕ). Counting end (records + 1) n) (ap (λ (b : Bool). different + cond (not b) 1 0) e ∙ none) counting_next

        pub counting_other : a ≡ false → Counting end (records + 1) (different + 1)
        counting_other e =
            subst (λ (n : ℕ). Counting end (records + 1) n) (ap (λ (b : Bool). different + cond (not b) 1 0) e) counting_next
