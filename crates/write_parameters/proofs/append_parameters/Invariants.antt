-- The loop's invariant: the parameters left are left to append.
use Rattle.std.specs.Prelude.{◌≡◌, ◌+◌, ◌*◌, ◌-◌}
use Rattle.kit.specs.Names.{length}
use Rattle.memory_append.specs.Append.{Appending}
use Rattle.write_parameters.specs.Parameters.{parameters_from}
use Rattle.write_parameters.proofs.append_parameters.Given as goal

abbrev pub invariant-loop-i : goal.invariant-loop-i
invariant-loop-i l =
    (Appending l.initial.out l.out l.from l.at (parameters_from l.count l.file l.start) (parameters_from (l.count - l.i) l.file
    (l.start + 2 * l.i)))
    × (length l.out ≡ length l.initial.out)
