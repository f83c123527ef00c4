use Rattle.std.specs.Prelude.{◌≡◌, ◌||◌, ◌-◌, ◌≤◌}
use Rattle.kit.specs.Names.{map, max}
use Rattle.definitions.specs.Basics.{any_numbered, largest}
use Rattle.definitions.specs.ContractFile.{node_of}
use Rattle.file_decoded.specs.Slices.{node_from}
use Rattle.check_05_uses.specs.Counting.{Room, children_of}
use Rattle.check_05_uses.proofs.Loops.{Leads}
use Rattle.check_06_depth.specs.Chains.{depth_in}
use Rattle.check_07_sorts.specs.Sorts.{nodes_in, parts_wrong}
use Rattle.check_07_sorts.proofs.SortLoops.{child_wrong}
use Rattle.check_05_to_07.proofs.Children.{rest}
use Rattle.check_05_to_07.proofs.look_at_children.Given as goal

abbrev pub invariant-loop-i : goal.invariant-loop-i
invariant-loop-i l =
    (Leads l.initial.counts l.counts (rest l.nodes l.at l.i (l.children - l.i)) (children_of (node_from l.nodes l.at)))
    × (Room l.counts (l.children - l.i))
    × (max l.deepest (largest (map (depth_in l.depths) (rest l.nodes l.at l.i (l.children - l.i))))
    ≡ largest (map (depth_in l.depths) (children_of (node_from l.nodes l.at))))
    × (l.wrong || any_numbered (child_wrong (nodes_in l.nodes) l.expressions) l.i (rest l.nodes l.at l.i (l.children - l.i))
    ≡ parts_wrong (nodes_in l.nodes) (node_of (node_from l.nodes l.at)))
    × (l.deepest ≤ 512) × (l.children ≤ 3)
