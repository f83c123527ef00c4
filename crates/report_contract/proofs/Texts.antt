-- The report's text: what it is of an accepted file, how long it can be, and what stands in the output.
use Rattle.std.specs.Prelude.{◌≡◌, ◌∷◌, ◌+◌, ◌-◌, ◌≤◌}
use Rattle.kit.specs.Names.{refl, ap, sym, ◌∙◌, Bool, true, false, cond, List, [], ℕ, zero, suc, arith, ltb}
use Rattle.kit.specs.Names.{length, take, drop, replicate, length-take-le, take_at, eq-eqb, ne_eqb}
use Rattle.definitions.specs.Basics.{first_that_holds}
use Rattle.definitions.specs.ContractFile.{function_count}
use Rattle.definitions.specs.Crossings.{crossings_in, sixteen, crossings_after_writing}
use Rattle.definitions.specs.Numbers.{check_number, or_else}
use Rattle.definitions.specs.Rewriting.{written_file, write_number}
use Rattle.definitions.specs.Report.{report_lines, report_text, report_number, report_length, output_after_report}
use Rattle.theory_crossings.specs.Crossings.{sum}
use Rattle.theory_laws.proofs.Rooms.{within_room}
use Rattle.memory_buffer.specs.Buffer.{stored}
use Rattle.memory_append.specs.Append.{Appended}
use Rattle.memory_append.proofs.Appending.{appended_length}
use Rattle.write_output.specs.Answers.{HandedOut}
use Rattle.write_room.proofs.Room.{own_number_where_enough, any_file_fits}
use Rattle.write_function_room.proofs.Room.{functions_few}
use Rattle.report_room.proofs.Room.{counts_many, text_is, text_few}

-- What is answered where a number refuses.
pub record Refused (file out : List ℕ) (number : ℕ) : Type 0 where
  pub given : number ≡ report_number file (length out)
  pub long : 0 ≡ report_length file (length out)
  pub output : out ≡ output_after_report file out

refused_by : (file out : List ℕ) (number : ℕ) → number ≡ report_number file (length out) → (number ≡ 0 → ⊥) → Refused file out number
unfolding report_length output_after_report
refused_by file out number e refused =
    let not_clear = ne_eqb (report_number file (length out)) 0 (λ h. refused (e ∙ h)) in
    record { given = e; long = rw not_clear; output = rw not_clear }

-- What is reported stays inside the output.
pub reported_within : (file : List ℕ) (room long : ℕ) → long ≡ report_length file room → long ≤ room
unfolding report_length report_number
reported_within file room long e = let w = within_room (check_number file) 15 room (length (report_text file)) in omega arith

module _ (file : List ℕ) where
  -- In the report's room writing refuses the file's own number alone.
  pub own_number : (number room : ℕ) → number ≡ write_number file room → 37844 ≡ room → number ≡ check_number file
  own_number number room e long = e ∙ ap (write_number file) (sym long) ∙ own_number_where_enough file 37844 (any_file_fits file)

  -- "Checking uses 1 to 15": a refused file's number goes before that of the room.
  pub file_refused : (out : List ℕ) (number : ℕ) → number ≡ check_number file → (number ≡ 0 → ⊥) → Refused file out number
  unfolding report_number
  file_refused out zero e refused = absurd (refused refl)
  file_refused out (suc n) e refused =
      refused_by file out (suc n)
      (ap (λ (m : ℕ). or_else m (first_that_holds 16 (ltb (length out) (length (report_text file)) ∷ []))) e) refused

  module _ (accepted : check_number file ≡ 0) where
    -- Where writing refuses nothing, it hands back the counts in the written file.
    pub counts_handed : (number room : ℕ) (counts : List ℕ) → number ≡ write_number file room → number ≡ 0 → counts ≡ crossings_after_writing file room
        → counts ≡ sixteen (crossings_in (written_file file))
    unfolding crossings_after_writing
    counts_handed number room counts e z c =
        c ∙ ap (λ (b : Bool). sixteen (cond b (crossings_in (written_file file)) [])) (eq-eqb (write_number file room) 0 (sym e ∙ z))

    -- Of the sixteen, the functions' own.
    module _ (counts : List ℕ) (functions : ℕ) (handed : counts ≡ sixteen (crossings_in (written_file file))) (all : functions ≡ function_count file) where
      own : take functions counts ≡ crossings_in (written_file file)
      own =
          ap (take functions) handed
          ∙ take_at (crossings_in (written_file file)) (replicate (16 - length (crossings_in (written_file file))) 0) functions (omega (arith, counts_many file accepted))

      pub counts_taken : functions ≡ length (take functions counts)
      counts_taken = omega (arith, ap length own, counts_many file accepted)

      lines_are : report_lines (take functions counts) (sum (take functions counts)) ≡ report_text file
      lines_are = ap (λ (l : List ℕ). report_lines l (sum l)) own ∙ sym (text_is file accepted)

      pub lines_fit : (room : ℕ) → 131 ≤ room
          → (length (take functions counts) ≤ 16) × (length (report_lines (take functions counts) (sum (take functions counts))) ≤ room)
      lines_fit room long =
          (omega (arith, counts_taken, functions_few file accepted), omega (arith, ap length lines_are, text_few file accepted))

      pub lines_told : (before after : List ℕ) (end : ℕ) → Appended before after 0 (report_lines (take functions counts) (sum (take functions counts))) end
          → Appended before after 0 (report_text file) end
      lines_told before after end a = rw lines_are at a

    room_number : (out : List ℕ) → report_number file (length out) ≡ first_that_holds 16 (ltb (length out) (length (report_text file)) ∷ [])
    unfolding report_number
    room_number out = ap (λ (n : ℕ). or_else n (first_that_holds 16 (ltb (length out) (length (report_text file)) ∷ []))) accepted

    -- The text stands in front of the local room, and goes to the output where that is long enough.
    module _ (before after : List ℕ) (n : ℕ) (a : Appended before after 0 (report_text file) n) (room : 131 ≡ length before) where
      pub text_end : n ≤ 131
      text_end = omega (arith, a.place, text_few file accepted)

      pub text_taken : n ≡ length (take n after)
      text_taken = sym (length-take-le n after (omega (arith, text_end, appended_length before 0 after (report_text file) n a (omega (arith, text_few file accepted)))))

      text_front : take n after ≡ report_text file
      unfolding stored
      text_front = ap (take n) a.contents ∙ take_at (report_text file) (drop (0 + length (report_text file)) before) n (omega (arith, a.place))

      -- What is handed out of the room is what the entry owes.
      pub reported : (out now : List ℕ) (number long : ℕ) → HandedOut (take n after) out now number long
          → (number ≡ report_number file (length out)) × (long ≡ report_length file (length out)) × (now ≡ output_after_report file out)
      unfolding report_length output_after_report first_that_holds
      reported out now number long handed = go (ltb (length out) (length (report_text file))) refl
        where
          text_handed : HandedOut (report_text file) out now number long
          text_handed = rw text_front at handed

          go : (short : Bool) → ltb (length out) (length (report_text file)) ≡ short
              → (number ≡ report_number file (length out)) × (long ≡ report_length file (length out)) × (now ≡ output_after_report file out)
          go true e =
              (text_handed.number ∙ sym (room_number out), rw (room_number out, e) (rw e at text_handed.long), rw (room_number out, e) (rw e at text_handed.output))
          go false e =
              (text_handed.number ∙ sym (room_number out), rw (room_number out, e) (rw e at text_handed.long), rw (room_number out, e) (rw e at text_handed.output))
