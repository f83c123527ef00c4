-- The counts stay in order.
use Rattle.std.specs.Prelude.{◌≡◌, ◌&&◌, ◌<◌, ◌≤◌}
use Rattle.kit.specs.Names.{Bool, true, false, cond, ℕ, arith, leb}
use Rattle.test_ledgers.specs.declared.recorded.Tally.{Tally}
use Rattle.test_ledgers.specs.Tallies.{no_runs, Counted}

-- No more runs differ than there were, and each has at least a byte.
abbrev pub InOrder : Tally → Type 0
InOrder t = (t.different ≤ t.runs) × (t.runs ≤ t.place)

pub no_runs_order : (t : Tally) → t ≡ no_runs → InOrder t
no_runs_order t e = rw e (omega arith, omega arith)

one_more : (b : Bool) → cond b 0 1 ≤ 1
one_more true = omega arith
one_more false = omega arith

pub counted_order : (tally : Tally) (place : ℕ) (same : Bool) (length : ℕ) (r : Tally) → InOrder tally → 0 < place
    → Counted tally place same length r → InOrder r
counted_order tally place same length r (a, b) h is =
    (omega (arith, is.runs, is.different, one_more (same && leb place length)), omega (arith, is.runs, is.behind))
