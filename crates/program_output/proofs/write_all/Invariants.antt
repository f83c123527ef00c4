-- Each turn takes at least one byte more.
use Rattle.std.specs.Prelude.{◌-◌, ◌≤◌}
use Rattle.kit.specs.Names.{length}
use Rattle.program_output.proofs.write_all.Given as goal

abbrev pub invariant-loop-done : goal.invariant-loop-done
invariant-loop-done g l = l.done ≤ length l.bytes

abbrev pub decreases-loop-done : goal.decreases-loop-done
decreases-loop-done g l = length l.bytes - l.done
