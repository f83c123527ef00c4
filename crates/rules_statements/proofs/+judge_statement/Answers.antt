use Rattle.theory_trees.proofs.ByKind.{steps_below, branches_below}
use Rattle.rules_scopes.proofs.Nodes.{node_reads}
use Rattle.rules_scopes.proofs.Slices.{ready_with}
use Rattle.rules_statements.proofs.Judged as judged
use Rattle.rules_statements.proofs.Judged.{column_long, condition_long, classed_as, branch_arrays}
use Rattle.kit.specs.Names.{ap, sym, ◌∙◌, arith, length, rules}
use Rattle.rules_statements.proofs.+judge_statement.Goals as goal

pub read_node-node-requires : goal.read_node-node-requires
read_node-node-requires t c = (c.requires.0, c.args.slices.now.ready.bodies.few)

pub judge_statement-one-requires : goal.judge_statement-one-requires
judge_statement-one-requires t c = let (inside, long, classed, room) = c.requires in let ready = ready_with c.args.slices.now long in
    let less = (steps_below (node_reads _ _ ready.bodies _ inside _ c.read_node-node.ensures) c.in-17.is).0 in
    (omega (arith, c.decreases, less), (omega (arith, inside, less), long, classed, room))

pub judge_statement-two-requires : goal.judge_statement-two-requires
judge_statement-two-requires t c = let (inside, long, classed, room) = c.requires in let ready = ready_with c.args.slices.now long in let one = c.judge_statement-one.ensures in
    let less = (steps_below (node_reads _ _ ready.bodies _ inside _ c.read_node-node.ensures) c.in-17.is).1 in
    (omega (arith, c.decreases, less), (omega (arith, inside, less), rw one.checked.learnt.long long, one.checked.learnt.classed, omega (arith, room, column_long one)))

pub kept-before-requires : goal.kept-before-requires
kept-before-requires t c = c.requires.2.few

pub condition_met-met-requires : goal.condition_met-met-requires
condition_met-met-requires t c = let (inside, long, classed, room) = c.requires in let ready = ready_with c.args.slices.now long in
    let less = (branches_below (node_reads _ _ ready.bodies _ inside _ c.read_node-node.ensures) c.in-21.is).0 in
    (omega (arith, inside, less), long, classed, room)

pub judge_statement-yes-requires : goal.judge_statement-yes-requires
judge_statement-yes-requires t c = let (inside, long, classed, room) = c.requires in let ready = ready_with c.args.slices.now long in
    let less = (branches_below (node_reads _ _ ready.bodies _ inside _ c.read_node-node.ensures) c.in-21.is).1 in
    let known = c.condition_met-met.ensures in (
      omega (arith, c.decreases, less.0),
      (omega (arith, inside, less.0), rw known.learnt.long long, known.learnt.classed, omega (arith, room, condition_long known)),
    )

pub slice_bounds-other-end : goal.slice_bounds-other-end
slice_bounds-other-end t c = omega (arith, c.requires.2.few, c.kept-before.ensures.0)

pub slice_bounds-passed-end : goal.slice_bounds-passed-end
slice_bounds-passed-end t c = sym (ap length c.kept-before.ensures.1)

pub judge_statement-no-requires : goal.judge_statement-no-requires
judge_statement-no-requires t c = let (inside, long, classed, room) = c.requires in let ready = ready_with c.args.slices.now long in let front = c.kept-before.ensures.1 in
    let less = (branches_below (node_reads _ _ ready.bodies _ inside _ c.read_node-node.ensures) c.in-21.is).1 in (
      omega (arith, c.decreases, less.1),
      (
        omega (arith, inside, less.1),
        rw front long,
        classed_as front classed,
        omega (arith, room, condition_long c.condition_met-met.ensures, column_long c.judge_statement-yes.ensures),
      ),
    )

pub slice_bounds-branched-end : goal.slice_bounds-branched-end
slice_bounds-branched-end t c = c.kept-before.ensures.0

pub slice_bounds-branched-end-in-21 : goal.slice_bounds-branched-end-in-21
slice_bounds-branched-end-in-21 t c = let classed = c.requires.2 in
    (branch_arrays c.kept-before.result classed c.kept-before.ensures c.condition_met-met.ensures c.judge_statement-yes.ensures c.judge_statement-no.ensures).3

pub branched-requires : goal.branched-requires
branched-requires t c = let classed = c.requires.2 in
    let (before, other, few, long) =
    branch_arrays c.kept-before.result classed c.kept-before.ensures c.condition_met-met.ensures c.judge_statement-yes.ensures c.judge_statement-no.ensures in (
      c.judge_statement-yes.ensures.checked.learnt.classed,
      classed_as before classed,
      classed_as other c.judge_statement-no.ensures.checked.learnt.classed,
      omega (arith, few, c.kept-before.ensures.0),
      omega (arith, few, long),
    )

pub judge_simple-requires : goal.judge_simple-requires
judge_simple-requires t c = let (inside, long, classed, room) = c.requires in let ready = ready_with c.args.slices.now long in (inside, long, classed, room, c.read_node-node.ensures, (search rules), (search rules))

pub shape_of-classes-in-17 : goal.shape_of-classes-in-17
shape_of-classes-in-17 t c = c.judge_statement-two.ensures.checked.learnt.long ∙ c.judge_statement-one.ensures.checked.learnt.long

pub shape_of-owners-in-17 : goal.shape_of-owners-in-17
shape_of-owners-in-17 t c = column_long c.judge_statement-two.ensures ∙ column_long c.judge_statement-one.ensures

pub returns-in-17 : goal.returns-in-17
returns-in-17 t c = let (inside, long, _, _) = c.requires in let ready = ready_with c.args.slices.now long in
    judged.sequence_judged _ _ _ _ _ ready _ inside _ c.read_node-node.ensures _ _ _ _ _ _ _ c.in-17.is c.judge_statement-one.ensures
    c.judge_statement-two.ensures c.in_turn.ensures.0 c.in_turn.ensures.1

pub shape_of-classes-in-21 : goal.shape_of-classes-in-21
shape_of-classes-in-21 t c = c.branched.ensures.classes_len_unchanged ∙ c.judge_statement-yes.ensures.checked.learnt.long ∙ c.condition_met-met.ensures.learnt.long

pub shape_of-owners-in-21 : goal.shape_of-owners-in-21
shape_of-owners-in-21 t c = column_long c.judge_statement-no.ensures ∙ column_long c.judge_statement-yes.ensures ∙ condition_long c.condition_met-met.ensures

pub returns-in-21 : goal.returns-in-21
returns-in-21 t c = let (inside, long, classed, _) = c.requires in let ready = ready_with c.args.slices.now long in
    let (before, other, _, _) =
    branch_arrays c.kept-before.result classed c.kept-before.ensures c.condition_met-met.ensures c.judge_statement-yes.ensures c.judge_statement-no.ensures in
    let behind = c.branched.ensures in
    judged.conditional_judged _ _ _ _ _ ready _ inside _ c.read_node-node.ensures _ _ _ _ _ _ _ _ _ _ _ _ _ _ before c.kept-before.ensures.1 other
    c.condition_met-met.ensures c.judge_statement-yes.ensures c.judge_statement-no.ensures c.in-21.is behind.fault_value behind.behind
