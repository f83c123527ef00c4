use Rattle.std.specs.Prelude.{◌≡◌, ◌||◌, ◌-◌, ◌*◌, ◌/◌}
use Rattle.kit.specs.Names.{length}
use Rattle.definitions.specs.Basics.{any, any_numbered}
use Rattle.file_decoded.specs.Slices.{nodes_from}
use Rattle.check_03_declarations.specs.Outside.{node_outside}
use Rattle.check_04_nodes.specs.Naming.{node_names_nothing}
use Rattle.check_03_04_sections.proofs.note_nodes.Given as goal

abbrev pub invariant-loop-n : goal.invariant-loop-n
invariant-loop-n l =
    (l.outside || any node_outside (nodes_from (length l.nodes / 5 - l.n) l.nodes (5 * l.n))
    ≡ any node_outside (nodes_from (length l.nodes / 5) l.nodes 0))
    × (l.nothing || any_numbered (node_names_nothing l.fields) l.n (nodes_from (length l.nodes / 5 - l.n) l.nodes (5 * l.n))
    ≡ any_numbered (node_names_nothing l.fields) 0 (nodes_from (length l.nodes / 5) l.nodes 0))
