-- The parts of a line make the line, and what a lent output holds afterwards.
use Rattle.std.specs.Prelude.{◌∷◌, ◌++◌, ◌+◌, ◌*◌, ◌<◌, ◌≤◌}
use Rattle.kit.specs.Names.{List, [], ℕ, arith, length, length-append, le-leb, lt-leb}
use Rattle.definitions.specs.Report.{decimal}
use Rattle.memory_append.specs.Append.{Appended}
use Rattle.memory_append.proofs.Appending.{appended_then, appended_length}
use Rattle.rehearse_lines.specs.Lines.{hex_text, view_line, LineWritten}
use Rattle.rehearse_lines.proofs.Hex.{hex_length}
use Rattle.rehearse_lines.proofs.Decimals.{decimal_short}

module _ (held view : List ℕ) (number : ℕ) (few : number < 256) (fits : 5 + 2 * length view ≤ length held) where
  module _ (h₁ : List ℕ) (a : ℕ) (one : Appended held h₁ 0 (decimal number) a) where
    pub space_room : a + 2 + 2 * length view ≤ length h₁
    space_room =
        let short = decimal_short number few in
        let same = appended_length held 0 h₁ (decimal number) a one (omega arith) in
        let place = one.place in
        omega arith

    module _ (h₂ : List ℕ) (b : ℕ) (two : Appended h₁ h₂ a (32 ∷ []) b) where
      pub text_room : b + 1 + 2 * length view ≤ length h₂
      text_room =
          let room = space_room in
          let same = appended_length h₁ a h₂ (32 ∷ []) b two (omega arith) in
          let place = two.place in
          omega arith

      module _ (h₃ : List ℕ) (d : ℕ) (three : Appended h₂ h₃ b (hex_text view) d) where
        pub end_room : d + 1 ≤ length h₃
        end_room =
            let room = text_room in
            let long = hex_length view in
            let same = appended_length h₂ b h₃ (hex_text view) d three (omega arith) in
            let place = three.place in
            omega arith

        pub line_appended : (h₄ : List ℕ) (e : ℕ) → Appended h₃ h₄ d (10 ∷ []) e → Appended held h₄ 0 (view_line number view) e
        line_appended h₄ e four =
            let short = decimal_short number few in
            let long = hex_length view in
            let first = space_room in
            let text = appended_then h₁ a h₂ h₃ (32 ∷ []) (hex_text view) b d two (omega arith) three in
            let both = appended_then held 0 h₁ h₃ (decimal number) (32 ∷ hex_text view) a d one (omega arith) text in
            appended_then held 0 h₃ h₄ (decimal number ++ (32 ∷ hex_text view)) (10 ∷ []) d e both (omega (arith, length-append (decimal number) (32 ∷ hex_text view))) four

module _ (number : ℕ) (view before : List ℕ) where
  pub no_room : length before < 5 + 2 * length view → LineWritten number view before before 0
  no_room h =
      let none = lt-leb (5 + 2 * length view) (length before) h in
      record { long = rw none; output = rw none; inside = omega arith }

  line_long : number < 256 → length (view_line number view) ≤ 5 + 2 * length view
  line_long few =
      let short = decimal_short number few in
      let long = hex_length view in
      omega (arith, length-append (decimal number) (32 ∷ hex_text view), length-append (decimal number ++ (32 ∷ hex_text view)) (10 ∷ []))

  pub line_written : (after : List ℕ) (end : ℕ) → number < 256 → 5 + 2 * length view ≤ length before → Appended before after 0 (view_line number view) end
      → LineWritten number view before after end
  line_written after end few h a =
      let room = le-leb (5 + 2 * length view) (length before) h in
      let place = a.place in
      let long = line_long few in
      record { long = rw room (omega arith); output = rw room a.contents; inside = omega arith }
