use Rattle.std.specs.Prelude.{◌≡◌, ◌||◌, ◌∷◌, ◌+◌, ◌-◌}
use Rattle.kit.specs.Names.{ap, sym, ◌∙◌, Bool, not, [], ℕ, max, arith, ltb}
use Rattle.file_decoded.specs.Slices.{node_from}
use Rattle.file_children.specs.Children.{expression_count}
use Rattle.file_children.proofs.Loops.{noted_numbered_next, noted_numbered_done}
use Rattle.check_05_uses.proofs.UseCounts.{room_less, room_after}
use Rattle.check_05_uses.proofs.Loops.{leads_all, leads_next, leads_done}
use Rattle.check_06_depth.specs.Chains.{depth_in}
use Rattle.check_07_sorts.specs.Sorts.{nodes_in, has_sort}
use Rattle.check_07_sorts.proofs.SortLoops.{child_wrong, children_wrong}
use Rattle.check_05_to_07.proofs.Children.{rest, at_most_three, rest_all, rest_step, rest_end, largest_next, largest_done}
use Rattle.check_05_to_07.proofs.look_at_children.Goals as goal

pub loop-i-init : goal.loop-i-init
loop-i-init c =
    let read = c.number_from-kind.ensures.value in
    let nodes = c.args.nodes.now in
    let children = c.child_count-children.result in
    let none_passed : children - 0 ≡ children = omega arith in
    let all = rest_all nodes c.args.at _ _ read c.child_count-children.ensures in (
      rw (none_passed, all) (leads_all _ _),
      rw none_passed (room_less _ 3 _ c.requires.1 (at_most_three nodes 0 _ _ c.child_count-children.ensures)),
      rw (none_passed, all) (omega arith),
      rw (none_passed, all) (children_wrong (nodes_in nodes) (node_from nodes c.args.at) _ (c.expression_count-expressions.ensures ∙ ap expression_count read)),
      omega arith,
      at_most_three nodes 0 _ _ c.child_count-children.ensures,
    )

pub count_use-requires : goal.count_use-requires
count_use-requires c = room_less _ _ 1 c.loop-i.invariant.1 (omega arith)

pub loop-i-preserved : goal.loop-i-preserved
loop-i-preserved c =
    let loop = c.loop-i in
    let i = loop.i in
    let args = c.args in
    let nodes = args.nodes.now in
    let left = c.child_count-children.result - i in
    let one_less : c.child_count-children.result - (i + 1) ≡ left - 1 = omega arith in
    let step = rest_step nodes args.at i left (omega arith) (omega arith) in
    let is = c.number_from-child.ensures.value in
    let due = ltb i c.expression_count-expressions.result in
    let (leads, room, deep, sorts, _, few) = loop.invariant in (
      rw one_less (leads_next _ _ _ _ (_ ∷ []) _ _ leads (step ∙ ap (λ (n : ℕ). n ∷ rest nodes args.at (i + 1) (left - 1)) (sym is)) c.count_use.ensures),
      rw one_less (room_after _ _ _ _ _ c.count_use.ensures room (omega arith)),
      rw one_less (largest_next (depth_in args.depths.now) loop.deepest _ _ _ _ _ step deep
          (c.larger-deepest.ensures ∙ ap (max loop.deepest) (c.depth_of.ensures.value ∙ ap (depth_in args.depths.now) is))),
      rw one_less (noted_numbered_next (child_wrong (nodes_in nodes) _) i loop.wrong _ _ _ _ step sorts _
          (ap (λ (b : Bool). loop.wrong || not b) (c.has_sort.ensures ∙ ap (has_sort (nodes_in nodes) due) is))),
      omega arith,
      few,
    )

pub returns : goal.returns
returns c =
    let loop = c.loop-i in
    let args = c.args in
    let end = rest_end args.nodes.now args.at loop.i (c.child_count-children.result - loop.i) (omega arith) in
    let (leads, _, deep, sorts, low, _) = loop.invariant in record {
      counted = leads_done _ _ _ _ leads end;
      deepest = largest_done (depth_in args.depths.now) _ _ _ end deep;
      low = low;
      sorts = noted_numbered_done (child_wrong (nodes_in args.nodes.now) _) loop.i loop.wrong _ _ end sorts;
    }
