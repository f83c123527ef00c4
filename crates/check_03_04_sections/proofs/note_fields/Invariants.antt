use Rattle.std.specs.Prelude.{◌≡◌, ◌||◌, ◌-◌, ◌*◌, ◌/◌}
use Rattle.kit.specs.Names.{length}
use Rattle.definitions.specs.Basics.{any}
use Rattle.file_decoded.specs.Slices.{fields_from}
use Rattle.check_03_declarations.specs.Outside.{field_outside}
use Rattle.check_04_nodes.specs.Naming.{owner_names_nothing}
use Rattle.check_03_04_sections.proofs.note_fields.Given as goal

abbrev pub invariant-loop-i : goal.invariant-loop-i
invariant-loop-i l =
    (l.outside || any field_outside (fields_from (l.count - l.i) l.fields (3 * l.i)) ≡ any field_outside (fields_from (length l.fields / 3) l.fields 0))
    × (l.nothing || any (owner_names_nothing l.count) (fields_from (l.count - l.i) l.fields (3 * l.i))
    ≡ any (owner_names_nothing l.count) (fields_from (length l.fields / 3) l.fields 0))
