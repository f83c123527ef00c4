-- The loop's invariant: the claims left are left to append.
use Rattle.std.specs.Prelude.{◌≡◌, ◌-◌}
use Rattle.kit.specs.Names.{length}
use Rattle.memory_append.specs.Append.{Appending}
use Rattle.write_parameters.specs.Parameters.{opening_claims}
use Rattle.write_parameters.proofs.append_opening_claims.Given as goal

abbrev pub invariant-loop-variable : goal.invariant-loop-variable
invariant-loop-variable l =
    (Appending l.initial.out l.out l.from l.at (opening_claims 0 l.count) (opening_claims l.variable (l.count - l.variable)))
    × (length l.out ≡ length l.initial.out)
