-- The loop's invariant: the variables left are left to append.
use Rattle.std.specs.Prelude.{◌≡◌, ◌-◌}
use Rattle.kit.specs.Names.{length}
use Rattle.memory_append.specs.Append.{Appending}
use Rattle.write_parameters.specs.Parameters.{opening_variables}
use Rattle.write_parameters.proofs.append_opening_variables.Given as goal

abbrev pub invariant-loop : goal.invariant-loop
invariant-loop l =
    (Appending l.initial.out l.out l.from l.at (opening_variables l.count) (opening_variables (l.count - l.counter))) ×
    (length l.out ≡ length l.initial.out)
