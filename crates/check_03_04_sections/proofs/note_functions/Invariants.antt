use Rattle.std.specs.Prelude.{◌≡◌, ◌||◌, ◌-◌, ◌*◌, ◌/◌}
use Rattle.kit.specs.Names.{length}
use Rattle.definitions.specs.Basics.{any}
use Rattle.file_decoded.specs.Slices.{functions_from}
use Rattle.check_03_declarations.specs.Outside.{function_outside}
use Rattle.check_04_nodes.specs.Naming.{root_names_nothing}
use Rattle.check_03_04_sections.proofs.note_functions.Given as goal

abbrev pub invariant-loop-i : goal.invariant-loop-i
invariant-loop-i l =
    (l.outside || any function_outside (functions_from l.parameters (length l.functions / 3 - l.i) l.functions (3 * l.i))
    ≡ any function_outside (functions_from l.parameters (length l.functions / 3) l.functions 0))
    × (l.nothing || any (root_names_nothing l.nodes) (functions_from l.parameters (length l.functions / 3 - l.i) l.functions (3 * l.i))
    ≡ any (root_names_nothing l.nodes) (functions_from l.parameters (length l.functions / 3) l.functions 0))
