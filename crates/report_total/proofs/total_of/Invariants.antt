-- The loop's invariant: the counts of the lines passed are added up, at most 65,535 a line.
use Rattle.std.specs.Prelude.{◌≡◌, ◌*◌, ◌≤◌}
use Rattle.report_order.specs.Counts.{ordered_tallies}
use Rattle.report_total.specs.Totals.{total_of}
use Rattle.report_total.proofs.total_of.Given as goal

abbrev pub invariant-loop-function : goal.invariant-loop-function
invariant-loop-function l =
    (l.total ≡ total_of (ordered_tallies l.counts l.function-index l.order)) × (l.total ≤ 65535 * l.function-index)
