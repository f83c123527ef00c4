use Rattle.std.specs.Prelude.{◌≡◌, ◌-◌, ◌≤◌}
use Rattle.kit.specs.Names.{⊎_elim, length, rules}
use Rattle.test_programs.proofs.main.Goals as goal
use Rattle.test_programs.proofs.main.Goals.{then-read, else-read}

pub loop-place-preserved : goal.loop-place-preserved
loop-place-preserved c =
    (search rules, elim c.if-read.branch [ then-read w ↦ rw w.out-is (search rules) | else-read w ↦ rw w.out-is (search rules) ])
