-- Each turn reads one number more.
use Rattle.std.specs.Prelude.{◌≡◌, ◌++◌, ◌+◌, ◌*◌, ◌-◌}
use Rattle.kit.specs.Names.{length, take}
use Rattle.rehearse_scripts.specs.Scripts.{numbers_at}
use Rattle.rehearse_scripts.proofs.numbers_at.Given as goal

abbrev pub invariant-loop-i : goal.invariant-loop-i
invariant-loop-i l = (255 ≡ length l.made) × (take l.i l.made ++ numbers_at (l.count - l.i) l.bytes (l.at + 4 * l.i) ≡ numbers_at l.count l.bytes l.at)
