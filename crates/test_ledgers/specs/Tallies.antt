-- How many runs there were, and how many of them differ.
use Rattle.std.specs.Prelude.{◌≡◌, ◌&&◌, ◌+◌}
use Rattle.kit.specs.Names.{Bool, cond, ℕ, leb}
use Rattle.test_ledgers.specs.declared.recorded.Tally.{Tally}

abbrev pub no_runs : Tally
no_runs = record { runs = 0; different = 0; place = 0 }

-- A run that ends at a place of its record, from whose start on there are so many bytes. One that is cut short differs.
pub record Counted (tally : Tally) (place : ℕ) (same : Bool) (length : ℕ) (r : Tally) : Type 0 where
  pub runs : r.runs ≡ tally.runs + 1
  pub different : r.different ≡ tally.different + cond (same && leb place length) 0 1
  pub behind : r.place ≡ tally.place + place
