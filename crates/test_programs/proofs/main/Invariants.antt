-- Both rooms keep their lengths.
use Rattle.std.specs.Prelude.{◌≡◌}
use Rattle.kit.specs.Names.{length}
use Rattle.test_programs.proofs.main.Given as goal

abbrev pub invariant-loop-place : goal.invariant-loop-place
invariant-loop-place l = (700000 ≡ length l.input) × (49152 ≡ length l.out)
