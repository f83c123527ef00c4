-- 01, numbers 5 to 7: what one look at a node's children tells.
use Rattle.std.specs.Prelude.{◌≡◌, ◌≤◌}
use Rattle.kit.specs.Names.{List, map, ℕ}
use Rattle.definitions.specs.Basics.{largest}
use Rattle.definitions.specs.ContractFile.{node_of}
use Rattle.file_decoded.specs.Slices.{node_from}
use Rattle.check_05_uses.specs.Counting.{Counted, children_of}
use Rattle.check_06_depth.specs.Chains.{depth_in}
use Rattle.check_07_sorts.specs.Sorts.{nodes_in, parts_wrong}
use Rattle.check_05_to_07.specs.declared.Seen.{Seen}

pub record SeenOf (nodes : List ℕ) (at : ℕ) (before after depths : List ℕ) (seen : Seen) : Type 0 where
  pub counted : Counted before after (children_of (node_from nodes at))
  pub deepest : seen.deepest ≡ largest (map (depth_in depths) (children_of (node_from nodes at)))
  pub low : seen.deepest ≤ 512
  pub sorts : seen.wrong ≡ parts_wrong (nodes_in nodes) (node_of (node_from nodes at))
