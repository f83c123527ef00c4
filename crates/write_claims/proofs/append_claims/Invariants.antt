-- The loop's invariant: the bytes of the claims passed are appended, and those of the claims left are left.
use Rattle.std.specs.Prelude.{◌≡◌, ◌*◌, ◌-◌}
use Rattle.kit.specs.Names.{length}
use Rattle.write_claims.proofs.Sixes.{SixesLeft}
use Rattle.write_claims.proofs.append_claims.Given as goal

abbrev pub invariant-loop-i : goal.invariant-loop-i
invariant-loop-i l = (SixesLeft l.numbers l.count l.initial.out l.from l.out l.at (4 * l.i) (l.count - l.i)) × (length l.out ≡ length l.initial.out)
