use Rattle.std.specs.Prelude.{◌≡◌, ◌+◌, ◌-◌, ◌*◌, ◌/◌}
use Rattle.kit.specs.Names.{refl, arith, length}
use Rattle.file_decoded.specs.Slices.{node_from}
use Rattle.check_05_uses.proofs.UseCounts.{room_less}
use Rattle.check_05_uses.proofs.Loops.{leads_all, nodes_next, nodes_done, room_after_node}
use Rattle.check_06_depth.proofs.Loops.{chains_next, chains_done}
use Rattle.check_07_sorts.specs.Sorts.{nodes_in}
use Rattle.check_07_sorts.proofs.SortLoops.{nodes_all, node_noted, nodes_noted}
use Rattle.check_05_to_07.proofs.look_at_nodes.Goals as goal

pub loop-n-init : goal.loop-n-init
loop-n-init c =
    let count = length c.args.nodes.now / 5 in
    let all : count - 0 ≡ count = omega arith in
    let (_, _, room, chains) = c.requires in
    (rw all (leads_all _ _), rw all room, chains, rw all (nodes_all c.args.nodes.now))

pub look_at_children-seen-requires : goal.look_at_children-seen-requires
look_at_children-seen-requires c =
    let (_, room, chains, _) = c.loop-n.invariant in (omega arith, room_less _ _ 3 room (omega arith), chains.bounded)

pub loop-n-preserved : goal.loop-n-preserved
loop-n-preserved c =
    let n = c.loop-n.n in
    let seen = c.look_at_children-seen.ensures in
    let nodes = c.args.nodes.now in
    let count = length nodes / 5 in
    let one_less : count - (n + 1) ≡ (count - n) - 1 = omega arith in
    let next_place : 5 * (n + 1) ≡ 5 * n + 5 = omega arith in
    let (_, below, _, _) = c.requires in
    let (leads, room, chains, sorts) = c.loop-n.invariant in (
      rw (one_less, next_place) (nodes_next _ _ _ _ nodes _ leads (omega arith) _ seen.counted),
      rw one_less (room_after_node (node_from nodes (5 * n)) _ _ (count - n) _ (omega arith) seen.counted room),
      chains_next _ nodes _ _ _ _ below chains (omega arith) (omega arith) refl seen.deepest,
      rw (one_less, next_place) (node_noted (nodes_in nodes) _ nodes _ c.loop-n.wrong _ sorts (omega arith) _ seen.sorts),
    )

pub returns : goal.returns
returns c =
    let nodes = c.args.nodes.now in
    let (leads, room, chains, sorts) = c.loop-n.invariant in (
      nodes_done _ _ _ _ _ _ leads (omega arith),
      room_less _ _ 16 room (omega arith),
      chains_done _ _ _ _ chains (omega arith) (omega arith),
      nodes_noted (nodes_in nodes) _ nodes _ _ _ sorts (omega arith),
    )
