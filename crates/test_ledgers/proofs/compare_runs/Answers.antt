use Rattle.kit.specs.Names.{rules}
use Rattle.test_ledgers.proofs.Tallies.{no_runs_order, counted_order}
use Rattle.test_ledgers.proofs.compare_runs.Goals as goal

pub loop-tally-init : goal.loop-tally-init
loop-tally-init c = (no_runs_order _ c.no_runs-tally.ensures, search rules)

pub loop-tally-preserved : goal.loop-tally-preserved
loop-tally-preserved c = let step = c.loop-tally.invariant.0 in
    (counted_order _ _ _ _ _ step c.run.ensures.0 c.counted-tally.ensures, search rules)
