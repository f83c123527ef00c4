-- Each turn counts one record more, and what is left to count stays what it was.
use Rattle.std.specs.Prelude.{◌≡◌, ◌≤◌, ◌-◌}
use Rattle.kit.specs.Names.{⊎_elim, arith, length, not-true, not-false, rules}
use Rattle.test_programs.proofs.ProgramRecords.{Counting, counting_start, counting_done, counting_same, counting_other}
use Rattle.test_programs.proofs.programs.compare.Given as goal

abbrev pub invariant-loop-at : goal.invariant-loop-at
invariant-loop-at l = ((l.records ≤ l.at) × (l.different ≤ l.records) × (length l.input ≤ 700000) × (length l.out ≡ length l.initial.out)) × Counting l.input l.at l.records l.different

abbrev pub decreases-loop-at : goal.decreases-loop-at
decreases-loop-at l = length l.input - l.at
