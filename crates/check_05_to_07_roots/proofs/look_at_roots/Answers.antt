use Rattle.std.specs.Prelude.{◌≡◌, ◌+◌, ◌-◌, ◌*◌, ◌/◌}
use Rattle.kit.specs.Names.{refl, ap, ◌∙◌, true, false, not, arith, length, ltb}
use Rattle.check_05_uses.proofs.UseCounts.{room_less, room_after}
use Rattle.check_05_uses.proofs.Loops.{leads_all, roots_next}
use Rattle.check_06_depth.specs.Chains.{depth_in, root_too_deep}
use Rattle.check_07_sorts.specs.Sorts.{nodes_in, has_sort, root_wrong}
use Rattle.check_05_to_07_roots.proofs.Roots.{root_noted, roots_looked_at}
use Rattle.check_05_to_07_roots.proofs.look_at_roots.Goals as goal

pub loop-i-init : goal.loop-i-init
loop-i-init c =
    let count = length c.args.functions.now / 3 in
    let all : count - 0 ≡ count = omega arith in
    (λ parameters. (rw all (leads_all _ _), rw all refl, rw all refl), rw all c.requires.0)

pub count_use-requires : goal.count_use-requires
count_use-requires c = room_less _ _ 1 c.loop-i.invariant.1 (omega arith)

pub loop-i-preserved : goal.loop-i-preserved
loop-i-preserved c =
    let loop = c.loop-i in
    let args = c.args in
    let functions = args.functions.now in
    let count = length functions / 3 in
    let one_less : count - (loop.i + 1) ≡ (count - loop.i) - 1 = omega arith in
    let next_place : 3 * (loop.i + 1) ≡ 3 * loop.i + 3 = omega arith in
    let root = c.number_from-root.ensures.value in
    let (rest, room) = loop.invariant in (
      λ parameters. let (leads, deep, wrong) = rest parameters in (
        rw (one_less, next_place) (roots_next _ _ _ _ functions _ parameters leads (omega arith) _ root _ c.count_use.ensures),
        rw (one_less, next_place) (root_noted (root_too_deep args.depths.now) _ functions _ parameters loop.deep _ deep (omega arith) _
            (ap (ltb 64) (c.depth_of.ensures.value ∙ ap (depth_in args.depths.now) root))),
        rw (one_less, next_place) (root_noted (root_wrong (nodes_in args.nodes.now)) _ functions _ parameters loop.wrong _ wrong (omega arith) _
            (ap not (c.has_sort.ensures ∙ ap (has_sort (nodes_in args.nodes.now) false) root))),
      ),
      room_after _ _ _ _ _ c.count_use.ensures room (omega arith),
    )

pub returns-then-deep : goal.returns-then-deep
returns-then-deep c = λ parameters.
    roots_looked_at _ _ c.args.functions.now c.args.nodes.now c.args.depths.now _ _ _ _ (3 * c.loop-i.i) (omega arith) parameters
    (c.loop-i.invariant.0 parameters) true _ c.if-deep.true refl

pub returns-then-wrong : goal.returns-then-wrong
returns-then-wrong c = λ parameters.
    roots_looked_at _ _ c.args.functions.now c.args.nodes.now c.args.depths.now _ _ _ _ (3 * c.loop-i.i) (omega arith) parameters
    (c.loop-i.invariant.0 parameters) false true c.if-deep.false c.if-wrong.true

pub returns : goal.returns
returns c = λ parameters.
    roots_looked_at _ _ c.args.functions.now c.args.nodes.now c.args.depths.now _ _ _ _ (3 * c.loop-i.i) (omega arith) parameters
    (c.loop-i.invariant.0 parameters) false false c.if-deep.false c.if-wrong.false
