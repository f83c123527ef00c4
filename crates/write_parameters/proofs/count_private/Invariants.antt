-- The loop's invariant: those counted and those left are all.
use Rattle.std.specs.Prelude.{◌≡◌, ◌+◌, ◌*◌, ◌-◌, ◌≤◌}
use Rattle.write_parameters.specs.Parameters.{private_count}
use Rattle.write_parameters.proofs.count_private.Given as goal

abbrev pub invariant-loop-i : goal.invariant-loop-i
invariant-loop-i l = (l.private + private_count (l.count - l.i) l.file (l.start + 2 * l.i) ≡ private_count l.count l.file l.start) ×
    (l.private ≤ l.i)
