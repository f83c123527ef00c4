-- What a program shows, held against what is expected.
use Rattle.std.specs.Prelude.{◌≡◌, ◌&&◌, ◌∷◌, ◌++◌, ◌+◌, ◌<◌, ◌≤◌}
use Rattle.kit.specs.Names.{refl, ap, ap₂, sym, subst, ◌∙◌, Bool, true, false, cond, List, [], ℕ, zero, suc}
use Rattle.kit.specs.Names.{min, arith, eqb, ltb, leb, length, take, drop, length-take, length-drop, length-take-le, take_all}
use Rattle.kit.specs.Names.{take_at, eq-eqb, ne_eqb, lt-ltb, le-ltb, le-leb, lt-leb, leb-true, leb-false}
use Rattle.definitions.specs.Basics.{first_that_holds}
use Rattle.definitions.specs.Numbers.{check_number, or_else}
use Rattle.definitions.specs.Report.{report_text, report_number, report_length, output_after_report, refused_line}
use Rattle.definitions.specs.Rewriting.{written_file, write_number, written_length, output_after_writing}
use Rattle.theory_laws.proofs.Rooms.{within_room}
use Rattle.memory_buffer.proofs.Storing.{front_stored}
use Rattle.memory_append.specs.Append.{Appended}
use Rattle.write_room.proofs.Room.{room_suffices}
use Rattle.test_shared.specs.Bytes.{same_bytes}
use Rattle.test_shared.proofs.Bytes.{same_equal}
use Rattle.test_programs.specs.ProgramRecords.{answer_text, accepted_line, printed_by, printed_for, rehearsed, is_expected, Shown, stands_at, behind_text}
use Rattle.test_programs.specs.ProgramRecords.{verdict_name, compile_name, report_name, rehearse_name}
use Rattle.report_room.proofs.Room.{text_few}

pub shown_same : {text same out : List ℕ} {r : ℕ} → text ≡ same → Shown text out r → Shown same out r
shown_same {out = out} {r = r} e shown = subst (λ (t : List ℕ). Shown t out r) e shown

-- An answer, or the line that takes its place.
module _ (number : ℕ) (out : List ℕ) where
  pub kept_shown : (end : ℕ) → number ≡ 0 → end ≤ length out → Shown (answer_text number (take end out)) out end
  unfolding answer_text
  kept_shown end e fits = record { long = rw (eq-eqb number 0 e) (sym (length-take-le end out fits)); front = rw (eq-eqb number 0 e) }

  pub refused_shown : (text after : List ℕ) (end : ℕ) → (number ≡ 0 → ⊥) → Appended out after 0 (refused_line number) end
      → Shown (answer_text number text) after end
  unfolding answer_text
  refused_shown text after end refused a =
      let long : end ≡ length (refused_line number) = omega (arith, a.place) in
      record {
        long = rw (ne_eqb number 0 refused) long;
        front = rw (ne_eqb number 0 refused) (front_stored out after (refused_line number) end a.contents long);
      }

pub accepted_shown : (number own : ℕ) (out between after : List ℕ) (middle end : ℕ) → number ≡ own → Appended out between 0 accepted_line middle
    → Shown (answer_text number (take middle between)) after end → Shown (answer_text own accepted_line) after end
accepted_shown number own out between after middle end e a =
    shown_same (ap₂ answer_text e (front_stored out between accepted_line middle a.contents (omega (arith, a.place))))

-- An entry whose output is never too short gives its number and its bytes.
module _ (own : ℕ) (whole held : List ℕ) (enough : own ≡ 0 → length whole ≤ length held) where
  abbrev number_of : ℕ
  number_of = or_else own (first_that_holds 16 (ltb (length held) (length whole) ∷ []))

  own_alone : (k : ℕ) → own ≡ k → or_else k (first_that_holds 16 (ltb (length held) (length whole) ∷ [])) ≡ k
  unfolding first_that_holds
  own_alone zero e = ap (λ (b : Bool). cond {A = ℕ} b 16 0) (le-ltb (length held) (length whole) (enough e))
  own_alone (suc k) e = refl

  entry_is : number_of ≡ own
  entry_is = own_alone own refl

  module _ (number long : ℕ) (after : List ℕ) (numbered : number ≡ number_of) (counted : long ≡ cond (eqb number_of 0) (length whole) 0)
      (left : after ≡ cond (eqb number_of 0) (whole ++ drop (length whole) held) held) where
    go : (b : Bool) → eqb own 0 ≡ b → cond b (take (cond b (length whole) 0) (cond b (whole ++ drop (length whole) held) held)) (refused_line own) ≡ cond b whole (refused_line own)
    go true e = take_at whole (drop (length whole) held) (length whole) refl
    go false e = refl

    pub entry_text : answer_text number (take long after) ≡ answer_text own whole
    unfolding answer_text
    entry_text =
        ap (λ (m : ℕ). answer_text m (take long after)) (numbered ∙ entry_is)
        ∙ ap (λ (m : ℕ). answer_text own (take m after)) (counted ∙ ap (λ (m : ℕ). cond (eqb m 0) (length whole) 0) entry_is)
        ∙ ap (λ (l : List ℕ). answer_text own (take (cond (eqb own 0) (length whole) 0) l))
        (left ∙ ap (λ (m : ℕ). cond (eqb m 0) (whole ++ drop (length whole) held) held) entry_is)
        ∙ go (eqb own 0) refl

module _ (file held after : List ℕ) (number long : ℕ) (ample : 49152 ≤ length held) where
  pub written_text : number ≡ write_number file (length held) → long ≡ written_length file (length held) → after ≡ output_after_writing file held
      → answer_text number (take long after) ≡ answer_text (check_number file) (written_file file)
  unfolding write_number written_length output_after_writing
  written_text e f g =
      entry_text (check_number file) (written_file file) held (λ z. omega (arith, room_suffices file z)) number long after e f g

  pub reported_text_law : number ≡ report_number file (length held) → long ≡ report_length file (length held) → after ≡ output_after_report file held
      → answer_text number (take long after) ≡ answer_text (check_number file) (report_text file)
  unfolding report_number report_length output_after_report
  reported_text_law e f g =
      entry_text (check_number file) (report_text file) held (λ z. omega (arith, text_few file z)) number long after e f g

pub written_within : (file : List ℕ) (room long : ℕ) → long ≡ written_length file room → long ≤ room
unfolding written_length write_number
written_within file room long e = let w = within_room (check_number file) 15 room (length (written_file file)) in omega arith

-- The front of an output, as long as it is.
module _ (m end : ℕ) (out expected : List ℕ) (least : m ≡ min end (length out)) where
  take_least : take m out ≡ take end out
  take_least = go (leb end (length out)) refl
    where
      go : (b : Bool) → leb end (length out) ≡ b → take m out ≡ take end out
      go true e = let all : m ≡ end = omega (arith, leb-true end (length out) e) in ap (λ (n : ℕ). take n out) all
      go false e =
          let less = leb-false end (length out) e in
          take_all m out (omega arith) ∙ sym (take_all end out (omega arith))

  pub expected_front : (r : Bool) → 0 < m → r ≡ same_bytes (take m out) expected → r ≡ is_expected (take end out) expected
  unfolding is_expected
  expected_front r some e =
      let long : length (take end out) ≡ m = length-take end out ∙ sym least in
      e ∙ ap (λ (l : List ℕ). same_bytes l expected) take_least
      ∙ ap (λ (b : Bool). b && same_bytes (take end out) expected) (sym (lt-ltb 0 (length (take end out)) (omega arith)))

  pub expected_nothing : m ≤ 0 → false ≡ is_expected (take end out) expected
  unfolding is_expected
  expected_nothing none =
      let long : length (take end out) ≡ m = length-take end out ∙ sym least in
      ap (λ (b : Bool). b && same_bytes (take end out) expected) (sym (le-ltb 0 (length (take end out)) (omega arith)))

pub expected_shown : (r : Bool) (text out expected : List ℕ) (end : ℕ) → Shown text out end → r ≡ is_expected (take end out) expected
    → r ≡ is_expected text expected
expected_shown r text out expected end shown e = e ∙ ap (λ (t : List ℕ). is_expected t expected) shown.front

-- The programs by their names.
module _ (name file : List ℕ) (v : Bool) (is_v : v ≡ same_bytes verdict_name name) where
  abbrev verdict_text : List ℕ
  verdict_text = answer_text (check_number file) accepted_line

  abbrev compile_text : List ℕ
  compile_text = answer_text (check_number file) (written_file file)

  abbrev reported_text : List ℕ
  reported_text = answer_text (check_number file) (report_text file)

  pub by_verdict : v ≡ true → verdict_text ≡ printed_by name file
  unfolding printed_by
  by_verdict e =
      ap (λ (b : Bool). cond b verdict_text (cond (same_bytes compile_name name) compile_text (cond (same_bytes report_name name) reported_text [])))
      (sym e ∙ is_v)

  module _ (other : v ≡ false) (c : Bool) (is_c : c ≡ same_bytes compile_name name) where
    behind_verdict : (rest : List ℕ) → rest ≡ cond (same_bytes verdict_name name) verdict_text rest
    behind_verdict rest = ap (λ (b : Bool). cond b verdict_text rest) (sym other ∙ is_v)

    pub by_compile : c ≡ true → compile_text ≡ printed_by name file
    unfolding printed_by
    by_compile e =
        ap (λ (b : Bool). cond b compile_text (cond (same_bytes report_name name) reported_text [])) (sym e ∙ is_c)
        ∙ behind_verdict (cond (same_bytes compile_name name) compile_text (cond (same_bytes report_name name) reported_text []))

    module _ (another : c ≡ false) (p : Bool) (is_p : p ≡ same_bytes report_name name) where
      behind_compile : cond (same_bytes report_name name) reported_text [] ≡ printed_by name file
      unfolding printed_by
      behind_compile =
          ap (λ (b : Bool). cond b compile_text (cond (same_bytes report_name name) reported_text [])) (sym another ∙ is_c)
          ∙ behind_verdict (cond (same_bytes compile_name name) compile_text (cond (same_bytes report_name name) reported_text []))

      pub by_report : p ≡ true → reported_text ≡ printed_by name file
      by_report e = ap (λ (b : Bool). cond b reported_text []) (sym e ∙ is_p) ∙ behind_compile

      pub nothing_shown : (out : List ℕ) → p ≡ false → Shown (printed_by name file) out 0
      nothing_shown out e =
          shown_same (ap (λ (b : Bool). cond b reported_text []) (sym e ∙ is_p) ∙ behind_compile) (record { long = refl; front = refl })

module _ (name input expected : List ℕ) (h : Bool) (is_h : h ≡ same_bytes rehearse_name name) where
  pub by_rehearse : h ≡ true → (r : Bool) → r ≡ is_expected (rehearsed input) expected → r ≡ is_expected (printed_for name input) expected
  unfolding printed_for
  by_rehearse e r f = f ∙ ap (λ (b : Bool). is_expected (cond b (rehearsed input) (printed_by name input)) expected) (sym e ∙ is_h)

  pub by_other : h ≡ false → (r : Bool) → r ≡ is_expected (printed_by name input) expected → r ≡ is_expected (printed_for name input) expected
  unfolding printed_for
  by_other e r f = f ∙ ap (λ (b : Bool). is_expected (cond b (rehearsed input) (printed_by name input)) expected) (sym e ∙ is_h)

-- A text at a place.
module _ (text bytes : List ℕ) (at : ℕ) where
  abbrev pub window : List ℕ
  window = take (length text) (drop at bytes)

  pub text_past : length bytes < at + length text → 0 ≡ behind_text text bytes at
  unfolding behind_text stands_at
  text_past h = rw (lt-leb (at + length text) (length bytes) h)

  pub text_stands : at ≤ length bytes → same_bytes text window ≡ true → at + length text ≡ behind_text text bytes at
  unfolding behind_text stands_at
  text_stands inside e =
      let same : length text ≡ length window = ap length (same_equal text window e) in
      let fits : at + length text ≤ length bytes = omega (arith, same, length-take (length text) (drop at bytes), length-drop at bytes) in
      rw (le-leb (at + length text) (length bytes) fits, e)

  pub text_differs : same_bytes text window ≡ false → 0 ≡ behind_text text bytes at
  unfolding behind_text stands_at
  text_differs e = go (leb (at + length text) (length bytes))
    where
      go : (b : Bool) → 0 ≡ cond (b && same_bytes text window) (at + length text) 0
      go true = rw e
      go false = refl
