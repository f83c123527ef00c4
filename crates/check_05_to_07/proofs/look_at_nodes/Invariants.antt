use Rattle.std.specs.Prelude.{◌≡◌, ◌||◌, ◌+◌, ◌-◌, ◌*◌, ◌/◌}
use Rattle.kit.specs.Names.{length}
use Rattle.definitions.specs.Basics.{any, flat_map}
use Rattle.file_decoded.specs.Slices.{nodes_from}
use Rattle.check_05_uses.specs.Counting.{Room, children_of}
use Rattle.check_05_uses.proofs.Loops.{Leads}
use Rattle.check_06_depth.specs.Chains.{Chains}
use Rattle.check_07_sorts.specs.Sorts.{nodes_in, parts_wrong}
use Rattle.check_07_sorts.proofs.SortLoops.{node_wrong}
use Rattle.check_05_to_07.proofs.look_at_nodes.Given as goal

abbrev pub invariant-loop-n : goal.invariant-loop-n
invariant-loop-n l =
    (Leads l.initial.counts l.counts (flat_map children_of (nodes_from (length l.nodes / 5 - l.n) l.nodes (5 * l.n)))
    (flat_map children_of (nodes_from (length l.nodes / 5) l.nodes 0)))
    × (Room l.counts (3 * (length l.nodes / 5 - l.n) + 16)) × (Chains (nodes_in l.nodes) l.n l.depths)
    × (l.wrong || any (node_wrong (nodes_in l.nodes)) (nodes_from (length l.nodes / 5 - l.n) l.nodes (5 * l.n))
    ≡ any (parts_wrong (nodes_in l.nodes)) (nodes_in l.nodes))
