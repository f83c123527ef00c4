-- 02, Note 3: "the sum of the lines above".
use Rattle.kit.specs.Names.{List, map, ℕ}
use Rattle.definitions.specs.Report.{Tally}
use Rattle.theory_crossings.specs.Crossings.{sum}

abbrev pub total_of : List Tally → ℕ
total_of tallies = sum (map (λ t. t.count) tallies)
