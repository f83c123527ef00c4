-- Each turn runs one record more.
use Rattle.std.specs.Prelude.{◌-◌, ◌≤◌}
use Rattle.kit.specs.Names.{length}
use Rattle.test_ledgers.proofs.Tallies.{InOrder}
use Rattle.test_ledgers.proofs.compare_runs.Given as goal

abbrev pub invariant-loop-tally : goal.invariant-loop-tally
invariant-loop-tally l = InOrder l.tally × (length l.input ≤ 700000)

abbrev pub decreases-loop-tally : goal.decreases-loop-tally
decreases-loop-tally l = length l.input - l.tally.place
