-- The loop's invariant: the lines of the functions passed are appended.
use Rattle.kit.specs.Names.{length, take}
use Rattle.definitions.specs.Basics.{flat_map}
use Rattle.definitions.specs.Report.{tally_line}
use Rattle.memory_append.specs.Append.{Appended}
use Rattle.report_order.specs.Counts.{ordered_tallies}
use Rattle.report_text.proofs.append_tallies.Given as goal

abbrev pub invariant-loop-function : goal.invariant-loop-function
invariant-loop-function l =
    let lines = flat_map tally_line (take l.function-index (ordered_tallies l.counts (length l.counts) l.order)) in
    Appended l.initial.out l.out l.from lines l.at
