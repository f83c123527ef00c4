-- The parts of a line make the line, and what a lent output holds afterwards.
use Rattle.std.specs.Prelude.{◌∷◌, ◌++◌, ◌+◌, ◌*◌, ◌<◌, ◌≤◌}
use Rattle.kit.specs.Names.{List, [], ℕ, arith, length, length-append, le-leb, lt-leb}
use Rattle.definitions.specs.Basics.{flat_map}
use Rattle.definitions.specs.Report.{decimal}
use Rattle.memory_append.specs.Append.{Appended}
use Rattle.memory_append.proofs.Appending.{appended_then, appended_length}
use Rattle.report_text.proofs.Digits.{digits_length}
use Rattle.disclose_lines.specs.Lines.{spaced_value, disclosed_line, LineWritten}
use Rattle.disclose_lines.proofs.Values.{text_short}

module _ (held values : List ℕ) (number : ℕ) (fits : 21 + 21 * length values ≤ length held) where
  module _ (h₁ : List ℕ) (a : ℕ) (one : Appended held h₁ 0 (decimal number) a) where
    pub text_room : a + 21 * length values + 1 ≤ length h₁
    text_room =
        let short = digits_length 20 number in
        let same = appended_length held 0 h₁ (decimal number) a one (omega arith) in
        let place = one.place in
        omega arith

    module _ (h₂ : List ℕ) (b : ℕ) (two : Appended h₁ h₂ a (flat_map spaced_value values) b) where
      pub end_room : b + 1 ≤ length h₂
      end_room =
          let room = text_room in
          let short = text_short values in
          let same = appended_length h₁ a h₂ (flat_map spaced_value values) b two (omega arith) in
          let place = two.place in
          omega arith

      pub line_appended : (h₃ : List ℕ) (e : ℕ) → Appended h₂ h₃ b (10 ∷ []) e → Appended held h₃ 0 (disclosed_line number values) e
      line_appended h₃ e three =
          let digits = digits_length 20 number in
          let short = text_short values in
          let both = appended_then held 0 h₁ h₂ (decimal number) (flat_map spaced_value values) a b one (omega arith) two in
          appended_then held 0 h₂ h₃ (decimal number ++ flat_map spaced_value values) (10 ∷ []) b e both
          (omega (arith, length-append (decimal number) (flat_map spaced_value values))) three

module _ (number : ℕ) (values before : List ℕ) where
  pub no_room : length before < 21 + 21 * length values → LineWritten number values before before 0
  no_room h =
      let none = lt-leb (21 + 21 * length values) (length before) h in
      record { long = rw none; output = rw none; inside = omega arith }

  line_long : length (disclosed_line number values) ≤ 21 + 21 * length values
  line_long =
      let digits = digits_length 20 number in
      let short = text_short values in
      omega
      (arith, length-append (decimal number) (flat_map spaced_value values), length-append (decimal number ++ flat_map spaced_value values) (10 ∷ []))

  pub line_written : (after : List ℕ) (end : ℕ) → 21 + 21 * length values ≤ length before → Appended before after 0 (disclosed_line number values) end
      → LineWritten number values before after end
  line_written after end h a =
      let room = le-leb (21 + 21 * length values) (length before) h in
      let place = a.place in
      let long = line_long in
      record { long = rw room (omega arith); output = rw room a.contents; inside = omega arith }
