-- The line fits its room.
use Rattle.std.specs.Prelude.{◌++◌, ◌+◌, ◌≤◌}
use Rattle.kit.specs.Names.{List, ℕ, arith, length, length-append}
use Rattle.definitions.specs.Report.{decimal}
use Rattle.report_text.proofs.Digits.{digits_length}
use Rattle.test_shared.specs.Lines.{tally_line}

pub count_short : (count : ℕ) (word : List ℕ) → length (decimal count ++ word) ≤ 20 + length word
count_short count word = omega (arith, length-append (decimal count) word, digits_length 20 count)

pub line_short : (count : ℕ) (what : List ℕ) (wrong : ℕ) (how : List ℕ) → length what + length how ≤ 36
    → length (tally_line count what wrong how) ≤ 76
line_short count what wrong how h =
    omega (arith, length-append (decimal count ++ what) (decimal wrong ++ how), count_short count what, count_short wrong how)
