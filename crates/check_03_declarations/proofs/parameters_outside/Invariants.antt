use Rattle.std.specs.Prelude.{◌≡◌, ◌+◌, ◌-◌, ◌*◌}
use Rattle.definitions.specs.Basics.{any}
use Rattle.file_decoded.specs.Slices.{parameters_from}
use Rattle.check_03_declarations.specs.Outside.{parameter_outside}
use Rattle.check_03_declarations.proofs.parameters_outside.Given as goal

abbrev pub invariant-loop-i : goal.invariant-loop-i
invariant-loop-i l =
    any parameter_outside (parameters_from (l.count - l.i) l.parameters (l.from + 2 * l.i))
    ≡ any parameter_outside (parameters_from l.count l.parameters l.from)
