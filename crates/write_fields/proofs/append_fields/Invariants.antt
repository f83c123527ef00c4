-- The loop's invariant: the fields left are left to append.
use Rattle.std.specs.Prelude.{◌≡◌, ◌+◌, ◌*◌, ◌-◌}
use Rattle.kit.specs.Names.{length}
use Rattle.memory_append.specs.Append.{Appending}
use Rattle.write_fields.specs.Fields.{fields_from}
use Rattle.write_fields.proofs.append_fields.Given as goal

abbrev pub invariant-loop-i : goal.invariant-loop-i
invariant-loop-i l =
    (Appending l.initial.out l.out l.from l.at (fields_from l.count l.file 1) (fields_from (l.count - l.i) l.file (1 + 3 * l.i)))
    × (length l.out ≡ length l.initial.out)
