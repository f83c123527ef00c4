use Rattle.std.specs.Prelude.{◌-◌}
use Rattle.kit.specs.Names.{sym, ◌∙◌, arith, length, rules}
use borrow.Rule.Slice.PartMut.{put_mid, take_put}
use Rattle.theory_laws.proofs.Records.{kind_as}
use Rattle.rewrite_simple_statements.proofs.ByKind.{others_simple}
use Rattle.write_bodies.proofs.Sequences.{parts_less, first_ready, second_room, second_ready, parent_ready, sequence_written}
use Rattle.write_bodies.proofs.Branches.{guard_room, inside_place, inside_ready, branch_parent, branch_written, branches_less, then_ready, else_room, else_ready, branches_parent, branches_written}
use Rattle.write_bodies.proofs.Conditionals.{condition_ready, condition_fits, branches_ready, close_room, conditional_written}
use Rattle.write_bodies.proofs.+write_branch_write_branches_write_conditional_write_sequence_write_statement.Goals as goal

pub write_branch-put_guard-requires : goal.write_branch-put_guard-requires
write_branch-put_guard-requires t c = let ready = c.requires in guard_room _ _ _ _ _ _ _ _ _ ready

pub write_branch-overflow_add-q : goal.write_branch-overflow_add-q
write_branch-overflow_add-q t c = let ready = c.requires in let space = inside_place _ _ _ _ _ _ _ _ _ ready in omega (arith)

pub write_branch-overflow_add-q-2 : goal.write_branch-overflow_add-q-2
write_branch-overflow_add-q-2 t c = let ready = c.requires in let inside = inside_ready _ _ _ _ _ _ _ _ _ ready _ _ c.put_guard.ensures in
    omega (arith, inside.few)

pub write_branch-overflow_add-at : goal.write_branch-overflow_add-at
write_branch-overflow_add-at t c = let ready = c.requires in
    let put-guard = c.put_guard in
    let inside = inside_ready _ _ _ _ _ _ _ _ _ ready _ _ put-guard.ensures in let room = inside.room in
    omega (arith, room.bytes, put-guard.auto.out)

pub write_branch-overflow_add-base : goal.write_branch-overflow_add-base
write_branch-overflow_add-base t c = let ready = c.requires in
    let inside = inside_ready _ _ _ _ _ _ _ _ _ ready _ _ c.put_guard.ensures in
    let room = inside.room in omega (arith, room.numbers)

pub write_branch-write_statement-inside-requires : goal.write_branch-write_statement-inside-requires
write_branch-write_statement-inside-requires t c = let ready = c.requires in
    (omega arith, inside_ready _ _ _ _ _ _ _ _ _ ready _ _ c.put_guard.ensures)

pub write_branch-put_above_two-nodes-requires : goal.write_branch-put_above_two-nodes-requires
write_branch-put_above_two-nodes-requires t c = let ready = c.requires in
    branch_parent _ _ _ _ _ _ _ _ _ ready _ _ c.put_guard.ensures _ _ c.write_statement-inside.ensures

pub write_branch-shape_of-roots : goal.write_branch-shape_of-roots
write_branch-shape_of-roots t c = c.write_statement-inside.auto.roots

pub write_branch-shape_of-out : goal.write_branch-shape_of-out
write_branch-shape_of-out t c = c.put_above_two-nodes.auto.out ∙ c.write_statement-inside.auto.out ∙ c.put_guard.auto.out

pub write_branch-returns : goal.write_branch-returns
write_branch-returns t c = let ready = c.requires in
    let above = c.put_above_two-nodes.ensures in
    branch_written _ _ _ _ _ _ _ _ _ ready _ _ c.put_guard.ensures _ _ c.write_statement-inside.ensures _ _ above.0 above.1

pub write_branches-node_at-node-requires : goal.write_branches-node_at-node-requires
write_branches-node_at-node-requires t c = let ready = c.requires in
    (c.args.function.now.context.narrow, omega (arith, ready.inside, c.args.function.now.context.long))

pub write_branches-overflow_mul-a : goal.write_branches-overflow_mul-a
write_branches-overflow_mul-a t c = let ready = c.requires in
    let room = (then_ready _ _ _ c.args.function.now.context _ _ _ _ _ _ _ _ _ c.node_at-node.ensures.same ready).room in
    omega (arith, room.numbers)

pub write_branches-overflow_add-a : goal.write_branches-overflow_add-a
write_branches-overflow_add-a t c = let ready = c.requires in
    let room = (then_ready _ _ _ c.args.function.now.context _ _ _ _ _ _ _ _ _ c.node_at-node.ensures.same ready).room in
    omega (arith, room.bytes)

pub write_branches-overflow_add-b : goal.write_branches-overflow_add-b
write_branches-overflow_add-b t c = let ready = c.requires in
    let room = (then_ready _ _ _ c.args.function.now.context _ _ _ _ _ _ _ _ _ c.node_at-node.ensures.same ready).room in
    omega (arith, room.numbers)

pub write_branches-write_branch-then-requires : goal.write_branches-write_branch-then-requires
write_branches-write_branch-then-requires t c = let ready = c.requires in
    let same = c.node_at-node.ensures.same in let less = branches_less _ _ _ c.args.function.now.context _ _ _ _ _ _ _ _ _ same ready in
    (omega arith, then_ready _ _ _ c.args.function.now.context _ _ _ _ _ _ _ _ _ same ready)

pub write_branches-overflow_mul-c : goal.write_branches-overflow_mul-c
write_branches-overflow_mul-c t c = let ready = c.requires in
    let room = else_room _ _ _ c.args.function.now.context _ _ _ _ _ _ _ _ _ c.node_at-node.ensures.same ready _ _
    c.write_branch-then.ensures in
    omega (arith, room.numbers)

pub write_branches-overflow_add-c : goal.write_branches-overflow_add-c
write_branches-overflow_add-c t c = let ready = c.requires in
    let branch = c.write_branch-then in
    let room = else_room _ _ _ c.args.function.now.context _ _ _ _ _ _ _ _ _ c.node_at-node.ensures.same ready _ _ branch.ensures in
    omega (arith, room.bytes, branch.auto.out)

pub write_branches-overflow_add-d : goal.write_branches-overflow_add-d
write_branches-overflow_add-d t c = let ready = c.requires in
    let room = else_room _ _ _ c.args.function.now.context _ _ _ _ _ _ _ _ _ c.node_at-node.ensures.same ready _ _
    c.write_branch-then.ensures in
    omega (arith, room.numbers)

pub write_branches-write_branch-last-requires : goal.write_branches-write_branch-last-requires
write_branches-write_branch-last-requires t c = let ready = c.requires in
    let same = c.node_at-node.ensures.same in
    let branch = c.write_branch-then in
    let less = branches_less _ _ _ c.args.function.now.context _ _ _ _ _ _ _ _ _ same ready in
    (omega arith, else_ready _ _ _ c.args.function.now.context _ _ _ _ _ _ _ _ _ same ready _ _ branch.ensures _ branch.auto.roots)

pub write_branches-put_above_three-nodes-requires : goal.write_branches-put_above_three-nodes-requires
write_branches-put_above_three-nodes-requires t c = let ready = c.requires in
    branches_parent _ _ _ c.args.function.now.context _ _ _ _ _ _ _ _ _ c.node_at-node.ensures.same ready _ _ c.write_branch-then.ensures _
    _ c.write_branch-last.ensures

pub write_branches-shape_of-roots : goal.write_branches-shape_of-roots
write_branches-shape_of-roots t c = c.write_branch-last.auto.roots ∙ c.write_branch-then.auto.roots

pub write_branches-shape_of-out : goal.write_branches-shape_of-out
write_branches-shape_of-out t c = c.put_above_three-nodes.auto.out ∙ c.write_branch-last.auto.out ∙ c.write_branch-then.auto.out

pub write_branches-returns : goal.write_branches-returns
write_branches-returns t c = let ready = c.requires in
    let above = c.put_above_three-nodes.ensures in
    branches_written _ _ _ c.args.function.now.context _ _ _ _ _ _ _ _ _ c.node_at-node.ensures.same ready _ _ c.write_branch-then.ensures _
    _ c.write_branch-last.ensures _ _ above.0 above.1

pub write_conditional-node_at-first-requires : goal.write_conditional-node_at-first-requires
write_conditional-node_at-first-requires t c = let (_, ready) = c.requires in
    (c.args.function.now.context.narrow, omega (arith, ready.inside, c.args.function.now.context.long))

pub write_conditional-write_condition-c-requires : goal.write_conditional-write_condition-c-requires
write_conditional-write_condition-c-requires t c = let (kind, ready) = c.requires in
    condition_ready _ _ _ c.args.function.now.context _ _ _ _ _ _ _ ready _ c.node_at-first.ensures.same kind

pub write_conditional-overflow_mul-place : goal.write_conditional-overflow_mul-place
write_conditional-overflow_mul-place t c = let (kind, ready) = c.requires in
    let fits = condition_fits _ _ _ c.args.function.now.context _ _ _ _ _ _ _ ready _ c.node_at-first.ensures.same kind _ _ _
    c.write_condition-c.ensures in
    omega (arith, fits.1.1)

pub write_conditional-overflow_add-place : goal.write_conditional-overflow_add-place
write_conditional-overflow_add-place t c = let (kind, ready) = c.requires in
    let fits = condition_fits _ _ _ c.args.function.now.context _ _ _ _ _ _ _ ready _ c.node_at-first.ensures.same kind _ _ _
    c.write_condition-c.ensures in
    omega (arith, fits.1.0)

pub write_conditional-overflow_add-number : goal.write_conditional-overflow_add-number
write_conditional-overflow_add-number t c = let (kind, ready) = c.requires in
    let fits = condition_fits _ _ _ c.args.function.now.context _ _ _ _ _ _ _ ready _ c.node_at-first.ensures.same kind _ _ _
    c.write_condition-c.ensures in
    omega (arith, fits.1.1)

pub write_conditional-offset_bounds-roots-count : goal.write_conditional-offset_bounds-roots-count
write_conditional-offset_bounds-roots-count t c = let (kind, ready) = c.requires in
    let fits = condition_fits _ _ _ c.args.function.now.context _ _ _ _ _ _ _ ready _ c.node_at-first.ensures.same kind _ _ _
    c.write_condition-c.ensures in
    omega (arith, fits.1.1)

pub write_conditional-slice_bounds-write_branches-count : goal.write_conditional-slice_bounds-write_branches-count
write_conditional-slice_bounds-write_branches-count t c = let (kind, ready) = c.requires in
    let fits = condition_fits _ _ _ c.args.function.now.context _ _ _ _ _ _ _ ready _ c.node_at-first.ensures.same kind _ _ _
    c.write_condition-c.ensures in
    omega (arith, fits.0, c.write_condition-c.auto.roots)

pub write_conditional-write_branches-rest-requires : goal.write_conditional-write_branches-rest-requires
write_conditional-write_branches-rest-requires t c = let (kind, ready) = c.requires in
    let condition = c.write_condition-c in (
      omega arith,
      branches_ready _ _ _ c.args.function.now.context _ _ _ _ _ _ _ ready _ c.node_at-first.ensures.same kind _ _ _
          condition.ensures _ (sym c.write_branches-arg-1.given.1) condition.auto.roots,
    )

pub write_conditional-overflow_add-top : goal.write_conditional-overflow_add-top
write_conditional-overflow_add-top t c = let (kind, ready) = c.requires in
    let close = close_room _ _ _ c.args.function.now.context _ _ _ _ _ _ _ ready _ c.node_at-first.ensures.same kind _ _ _
    c.write_condition-c.ensures _ _ c.write_branches-rest.ensures in
    omega (arith, close.0, close.1.1.0)

pub write_conditional-overflow_sub-top : goal.write_conditional-overflow_sub-top
write_conditional-overflow_sub-top t c = let (kind, ready) = c.requires in
    let close = close_room _ _ _ c.args.function.now.context _ _ _ _ _ _ _ ready _ c.node_at-first.ensures.same kind _ _ _
    c.write_condition-c.ensures _ _ c.write_branches-rest.ensures in
    omega (arith, close.0)

pub write_conditional-overflow_mul-rest : goal.write_conditional-overflow_mul-rest
write_conditional-overflow_mul-rest t c = let (kind, ready) = c.requires in
    let close = close_room _ _ _ c.args.function.now.context _ _ _ _ _ _ _ ready _ c.node_at-first.ensures.same kind _ _ _
    c.write_condition-c.ensures _ _ c.write_branches-rest.ensures in
    omega (arith, close.1.1.0)

pub write_conditional-overflow_add-place-2 : goal.write_conditional-overflow_add-place-2
write_conditional-overflow_add-place-2 t c = let (kind, ready) = c.requires in
    let condition = c.write_condition-c in
    let branches = c.write_branches-rest in
    let close = close_room _ _ _ c.args.function.now.context _ _ _ _ _ _ _ ready _ c.node_at-first.ensures.same kind _ _ _ condition.ensures
    _ _ branches.ensures in
    omega (arith, close.1.1.1, branches.auto.out, condition.auto.out)

pub write_conditional-close_steps-requires : goal.write_conditional-close_steps-requires
write_conditional-close_steps-requires t c = let (kind, ready) = c.requires in
    let close = close_room _ _ _ c.args.function.now.context _ _ _ _ _ _ _ ready _ c.node_at-first.ensures.same kind _ _ _
    c.write_condition-c.ensures _ _ c.write_branches-rest.ensures in
    (omega (arith, close.1.0, c.roots-2-1.given.1), close.1.1)

pub write_conditional-overflow_add-result : goal.write_conditional-overflow_add-result
write_conditional-overflow_add-result t c = let (kind, ready) = c.requires in
    let close = close_room _ _ _ c.args.function.now.context _ _ _ _ _ _ _ ready _ c.node_at-first.ensures.same kind _ _ _
    c.write_condition-c.ensures _ _ c.write_branches-rest.ensures in
    omega (arith, close.0, close.1.1.0)

pub write_conditional-overflow_add-result-2 : goal.write_conditional-overflow_add-result-2
write_conditional-overflow_add-result-2 t c = let (kind, ready) = c.requires in
    let close = close_room _ _ _ c.args.function.now.context _ _ _ _ _ _ _ ready _ c.node_at-first.ensures.same kind _ _ _
    c.write_condition-c.ensures _ _ c.write_branches-rest.ensures in
    omega (arith, close.0, close.1.1.0)

pub write_conditional-shape_of-roots : goal.write_conditional-shape_of-roots
write_conditional-shape_of-roots t c = c.roots-2-1.given.1 ∙ c.write_condition-c.auto.roots

pub write_conditional-shape_of-out : goal.write_conditional-shape_of-out
write_conditional-shape_of-out t c = c.close_steps.auto.out ∙ c.write_branches-rest.auto.out ∙ c.write_condition-c.auto.out

pub write_conditional-returns : goal.write_conditional-returns
write_conditional-returns t c = let (kind, ready) = c.requires in
    let same = c.node_at-first.ensures.same in
    let condition = c.write_condition-c in
    let branches = c.write_branches-rest in
    let kept = condition.new.roots in let changed = branches.new.roots in
    let count = condition.result.count in
    let close = close_room _ _ _ c.args.function.now.context _ _ _ _ _ _ _ ready _ same kind _ _ _ condition.ensures _ _ branches.ensures in
    conditional_written _ _ _ c.args.function.now.context _ _ _ _ _ _ _ ready _ same kind _ _ _ condition.ensures _ _ branches.ensures
    (put_mid count (length kept - count) kept changed) _ (take_put count (length kept - count) kept changed close.1.0) c.close_steps.ensures

pub write_sequence-node_at-node-requires : goal.write_sequence-node_at-node-requires
write_sequence-node_at-node-requires t c = let (_, ready) = c.requires in
    (c.args.function.now.context.narrow, omega (arith, ready.inside, c.args.function.now.context.long))

pub write_sequence-write_statement-first-requires : goal.write_sequence-write_statement-first-requires
write_sequence-write_statement-first-requires t c = let (kind, ready) = c.requires in
    let same = c.node_at-node.ensures.same in let less = parts_less _ _ _ c.args.function.now.context _ _ _ _ _ _ _ ready _ same kind in
    (omega arith, first_ready _ _ _ c.args.function.now.context _ _ _ _ _ _ _ ready _ same kind)

pub write_sequence-overflow_mul-a : goal.write_sequence-overflow_mul-a
write_sequence-overflow_mul-a t c = let (kind, ready) = c.requires in
    let room = second_room _ _ _ c.args.function.now.context _ _ _ _ _ _ _ ready _ c.node_at-node.ensures.same kind _ _
    c.write_statement-first.ensures in
    omega (arith, room.numbers)

pub write_sequence-overflow_add-a : goal.write_sequence-overflow_add-a
write_sequence-overflow_add-a t c = let (kind, ready) = c.requires in
    let first = c.write_statement-first in
    let room = second_room _ _ _ c.args.function.now.context _ _ _ _ _ _ _ ready _ c.node_at-node.ensures.same kind _ _ first.ensures in
    omega (arith, room.bytes, first.auto.out)

pub write_sequence-overflow_add-b : goal.write_sequence-overflow_add-b
write_sequence-overflow_add-b t c = let (kind, ready) = c.requires in
    let room = second_room _ _ _ c.args.function.now.context _ _ _ _ _ _ _ ready _ c.node_at-node.ensures.same kind _ _
    c.write_statement-first.ensures in
    omega (arith, room.numbers)

pub write_sequence-write_statement-second-requires : goal.write_sequence-write_statement-second-requires
write_sequence-write_statement-second-requires t c = let (kind, ready) = c.requires in
    let same = c.node_at-node.ensures.same in
    let first = c.write_statement-first in
    let less = parts_less _ _ _ c.args.function.now.context _ _ _ _ _ _ _ ready _ same kind in
    (omega arith, second_ready _ _ _ c.args.function.now.context _ _ _ _ _ _ _ ready _ same kind _ _ first.ensures _ first.auto.roots)

pub write_sequence-put_above_two-nodes-requires : goal.write_sequence-put_above_two-nodes-requires
write_sequence-put_above_two-nodes-requires t c = let (kind, ready) = c.requires in
    parent_ready _ _ _ c.args.function.now.context _ _ _ _ _ _ _ ready _ c.node_at-node.ensures.same kind _ _
    c.write_statement-first.ensures _ _ c.write_statement-second.ensures

pub write_sequence-shape_of-roots : goal.write_sequence-shape_of-roots
write_sequence-shape_of-roots t c = c.write_statement-second.auto.roots ∙ c.write_statement-first.auto.roots

pub write_sequence-shape_of-out : goal.write_sequence-shape_of-out
write_sequence-shape_of-out t c = c.put_above_two-nodes.auto.out ∙ c.write_statement-second.auto.out ∙ c.write_statement-first.auto.out

pub write_sequence-returns : goal.write_sequence-returns
write_sequence-returns t c = let (kind, ready) = c.requires in
    let above = c.put_above_two-nodes.ensures in
    sequence_written _ _ _ c.args.function.now.context _ _ _ _ _ _ _ ready _ c.node_at-node.ensures.same kind _ _
    c.write_statement-first.ensures _ _ c.write_statement-second.ensures _ _ above.0 above.1

pub write_statement-node_at-node-requires : goal.write_statement-node_at-node-requires
write_statement-node_at-node-requires t c = let ready = c.requires in
    (c.args.function.now.context.narrow, omega (arith, ready.inside, c.args.function.now.context.long))

pub write_statement-write_sequence-requires : goal.write_statement-write_sequence-requires
write_statement-write_sequence-requires t c = let ready = c.requires in
    (omega arith, (kind_as _ _ 17 c.node_at-node.ensures.same c.in-17.is, ready))

pub write_statement-write_conditional-requires : goal.write_statement-write_conditional-requires
write_statement-write_conditional-requires t c = let ready = c.requires in
    (omega arith, (kind_as _ _ 21 c.node_at-node.ensures.same c.in-21.is, ready))

pub write_statement-write_simple-requires : goal.write_statement-write_simple-requires
write_statement-write_simple-requires t c = let ready = c.requires in
    (others_simple _ _ _ c.args.function.now.context _ ready.inside _ c.node_at-node.ensures.same (search rules) (search rules), ready)

pub write_statement-shape_of-roots-in-17 : goal.write_statement-shape_of-roots-in-17
write_statement-shape_of-roots-in-17 t c = c.write_sequence.auto.roots

pub write_statement-shape_of-out-in-17 : goal.write_statement-shape_of-out-in-17
write_statement-shape_of-out-in-17 t c = c.write_sequence.auto.out

pub write_statement-returns-in-17 : goal.write_statement-returns-in-17
write_statement-returns-in-17 t c = c.write_sequence.ensures

pub write_statement-shape_of-roots-in-21 : goal.write_statement-shape_of-roots-in-21
write_statement-shape_of-roots-in-21 t c = c.write_conditional.auto.roots

pub write_statement-shape_of-out-in-21 : goal.write_statement-shape_of-out-in-21
write_statement-shape_of-out-in-21 t c = c.write_conditional.auto.out

pub write_statement-returns-in-21 : goal.write_statement-returns-in-21
write_statement-returns-in-21 t c = c.write_conditional.ensures

pub write_statement-shape_of-roots-in_default : goal.write_statement-shape_of-roots-in_default
write_statement-shape_of-roots-in_default t c = c.write_simple.auto.roots

pub write_statement-shape_of-out-in_default : goal.write_statement-shape_of-out-in_default
write_statement-shape_of-out-in_default t c = c.write_simple.auto.out

pub write_statement-returns-in_default : goal.write_statement-returns-in_default
write_statement-returns-in_default t c = c.write_simple.ensures

pub write_conditional-slice_bounds-write_branches-start : goal.write_conditional-slice_bounds-write_branches-start
write_conditional-slice_bounds-write_branches-start t c = write_conditional-slice_bounds-write_branches-count t c
