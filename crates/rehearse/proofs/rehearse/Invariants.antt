-- The two rooms keep their length.
use Rattle.std.specs.Prelude.{◌≡◌}
use Rattle.kit.specs.Names.{length}
use Rattle.rehearse.proofs.rehearse.Given as goal

abbrev pub invariant-loop-k : goal.invariant-loop-k
invariant-loop-k l = (length l.view ≡ 20565) × (length l.line ≡ 41135)
