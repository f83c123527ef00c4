-- The line that says how many records there were, and how many of them are wrong.
use Rattle.std.specs.Prelude.{◌++◌}
use Rattle.kit.specs.Names.{List, ℕ}
use Rattle.definitions.specs.Report.{decimal}

-- The count and what is counted, then how many of them are wrong and how.
abbrev pub tally_line : ℕ → List ℕ → ℕ → List ℕ → List ℕ
tally_line count what wrong how = (decimal count ++ what) ++ (decimal wrong ++ how)
