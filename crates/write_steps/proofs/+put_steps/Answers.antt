use Rattle.std.specs.Prelude.{◌+◌}
use Rattle.kit.specs.Names.{refl, ◌∙◌, arith}
use Rattle.write_steps.proofs.Entries.{steps_none, steps_read, steps_other, readable_next, readable_inside, readable_few}
use Rattle.write_steps.proofs.Turns.{room_same, put_same, put_none, room_step, room_root, root_fits, room_steps, put_first}
use Rattle.write_steps.proofs.+put_steps.Goals as goal

pub offset_bounds-log-from : goal.offset_bounds-log-from
offset_bounds-log-from t c = let (readable, _) = c.requires in let some = c.if-left-eq0.false in
    omega (arith, readable.space)

pub bounds-log-from : goal.bounds-log-from
bounds-log-from t c = let (readable, _) = c.requires in let some = c.if-left-eq0.false in
    omega (arith, readable.space)

pub overflow_add-variable : goal.overflow_add-variable
overflow_add-variable t c = let (readable, _) = c.requires in
    let some = c.if-left-eq0.false in
    omega (arith, readable.space)

pub offset_bounds-log-from-then-log-from-eq-READ_LOGGED : goal.offset_bounds-log-from-then-log-from-eq-READ_LOGGED
offset_bounds-log-from-then-log-from-eq-READ_LOGGED t c = let (readable, _) = c.requires in
    let some = c.if-left-eq0.false in
    omega (arith, readable.space)

pub bounds-log-from-then-log-from-eq-READ_LOGGED : goal.bounds-log-from-then-log-from-eq-READ_LOGGED
bounds-log-from-then-log-from-eq-READ_LOGGED t c = let (readable, _) = c.requires in
    let some = c.if-left-eq0.false in omega (arith, readable.space)

pub overflow_cast-variable : goal.overflow_cast-variable
overflow_cast-variable t c = omega (arith, c.shared_slice_known-then-log-from-eq-READ_LOGGED-1.given (c.args.run.from + 1))

pub overflow_add-n : goal.overflow_add-n
overflow_add-n t c = let (readable, _) = c.requires in
    let some = c.if-left-eq0.false in omega (arith, readable.space)

pub offset_bounds-log-from-then-log-from-eq-READ_LOGGED-2 : goal.offset_bounds-log-from-then-log-from-eq-READ_LOGGED-2
offset_bounds-log-from-then-log-from-eq-READ_LOGGED-2 t c = let (readable, _) = c.requires in
    let some = c.if-left-eq0.false in omega (arith, readable.space)

pub bounds-log-from-then-log-from-eq-READ_LOGGED-2 : goal.bounds-log-from-then-log-from-eq-READ_LOGGED-2
bounds-log-from-then-log-from-eq-READ_LOGGED-2 t c = let (readable, _) = c.requires in
    let some = c.if-left-eq0.false in omega (arith, readable.space)

pub overflow_cast-n : goal.overflow_cast-n
overflow_cast-n t c = omega (arith, c.shared_slice_known-then-log-from-eq-READ_LOGGED-2-1.given (c.args.run.from + 3))

pub overflow_add-i : goal.overflow_add-i
overflow_add-i t c = let (readable, _) = c.requires in
    let some = c.if-left-eq0.false in omega (arith, readable.space)

pub offset_bounds-log-from-then-log-from-eq-READ_LOGGED-3 : goal.offset_bounds-log-from-then-log-from-eq-READ_LOGGED-3
offset_bounds-log-from-then-log-from-eq-READ_LOGGED-3 t c = let (readable, _) = c.requires in
    let some = c.if-left-eq0.false in omega (arith, readable.space)

pub bounds-log-from-then-log-from-eq-READ_LOGGED-3 : goal.bounds-log-from-then-log-from-eq-READ_LOGGED-3
bounds-log-from-then-log-from-eq-READ_LOGGED-3 t c = let (readable, _) = c.requires in
    let some = c.if-left-eq0.false in omega (arith, readable.space)

pub overflow_cast-i : goal.overflow_cast-i
overflow_cast-i t c = omega (arith, c.shared_slice_known-then-log-from-eq-READ_LOGGED-3-1.given (c.args.run.from + 4))

pub put_step-nodes-requires : goal.put_step-nodes-requires
put_step-nodes-requires t c = let (readable, steps-room) = c.requires in
    let if1-left = c.if-left-eq0.false in
    let if2-taken = c.if-log-from-eq-READ_LOGGED.true in
    (readable_inside _ _ _ _ _ if1-left readable if2-taken, (readable_few _ _ _ _ _ if1-left readable if2-taken, room_step _ _ _ _ _ _ _ (room_same _ _ _ _ _ _ _ (steps_read _ _ _ _ _ if1-left if2-taken) steps-room)))

pub overflow_add-base : goal.overflow_add-base
overflow_add-base t c = let (_, steps-room) = c.requires in
    let if1-left = c.if-left-eq0.false in
    let if2-taken = c.if-log-from-eq-READ_LOGGED.true in
    let fits = root_fits _ _ _ _ _ _ _ (room_same _ _ _ _ _ _ _ (steps_read _ _ _ _ _ if1-left if2-taken) steps-room) _ _ c.put_step-nodes.ensures _ refl in
    omega arith

pub overflow_sub-base : goal.overflow_sub-base
overflow_sub-base t c = let (_, steps-room) = c.requires in
    let if1-left = c.if-left-eq0.false in
    let if2-taken = c.if-log-from-eq-READ_LOGGED.true in
    let fits = root_fits _ _ _ _ _ _ _ (room_same _ _ _ _ _ _ _ (steps_read _ _ _ _ _ if1-left if2-taken) steps-room) _ _ c.put_step-nodes.ensures _ refl in
    omega arith

pub overflow_cast-base : goal.overflow_cast-base
overflow_cast-base t c = let (_, steps-room) = c.requires in
    let if1-left = c.if-left-eq0.false in
    let if2-taken = c.if-log-from-eq-READ_LOGGED.true in
    let fits = root_fits _ _ _ _ _ _ _ (room_same _ _ _ _ _ _ _ (steps_read _ _ _ _ _ if1-left if2-taken) steps-room) _ _ c.put_step-nodes.ensures _ refl in
    omega arith

pub put_number-requires : goal.put_number-requires
put_number-requires t c = let (_, steps-room) = c.requires in
    let if1-left = c.if-left-eq0.false in
    let if2-taken = c.if-log-from-eq-READ_LOGGED.true in
    room_root _ _ _ _ _ _ _ (room_same _ _ _ _ _ _ _ (steps_read _ _ _ _ _ if1-left if2-taken) steps-room)

pub overflow_add-rest : goal.overflow_add-rest
overflow_add-rest t c = let (readable, _) = c.requires in
    let if1-left = c.if-left-eq0.false in
    let some = if1-left in omega (arith, readable.space)

pub overflow_sub-rest : goal.overflow_sub-rest
overflow_sub-rest t c = let some = c.if-left-eq0.false in
    omega arith

pub overflow_add-noted : goal.overflow_add-noted
overflow_add-noted t c = let (_, steps-room) = c.requires in
    let if1-left = c.if-left-eq0.false in
    let if2-taken = c.if-log-from-eq-READ_LOGGED.true in
    let inside = room_root _ _ _ _ _ _ _ (room_same _ _ _ _ _ _ _ (steps_read _ _ _ _ _ if1-left if2-taken) steps-room) in
    omega (arith)

pub overflow_mul-nodes : goal.overflow_mul-nodes
overflow_mul-nodes t c = let (_, steps-room) = c.requires in
    let if1-left = c.if-left-eq0.false in
    let if2-taken = c.if-log-from-eq-READ_LOGGED.true in
    let put_step = c.put_step-nodes.ensures in
    let fits = root_fits _ _ _ _ _ _ _ (room_same _ _ _ _ _ _ _ (steps_read _ _ _ _ _ if1-left if2-taken) steps-room) _ _ put_step _ refl in
    omega arith

pub overflow_add-at : goal.overflow_add-at
overflow_add-at t c = let (_, steps-room) = c.requires in
    let if1-left = c.if-left-eq0.false in
    let if2-taken = c.if-log-from-eq-READ_LOGGED.true in
    let put_step = c.put_step-nodes in
    let fits = root_fits _ _ _ _ _ _ _ (room_same _ _ _ _ _ _ _ (steps_read _ _ _ _ _ if1-left if2-taken) steps-room) _ _ put_step.ensures _ refl in
    let later = room_steps _ _ _ _ _ _ _ (room_same _ _ _ _ _ _ _ (steps_read _ _ _ _ _ if1-left if2-taken) steps-room) _ _ put_step.ensures _ c.put_number.ensures in
    omega (arith, later.bytes, put_step.auto.out)

pub overflow_add-base-then-log-from-eq-READ_LOGGED : goal.overflow_add-base-then-log-from-eq-READ_LOGGED
overflow_add-base-then-log-from-eq-READ_LOGGED t c = let (_, steps-room) = c.requires in
    let if1-left = c.if-left-eq0.false in
    let if2-taken = c.if-log-from-eq-READ_LOGGED.true in
    let put_step = c.put_step-nodes.ensures in
    let fits = root_fits _ _ _ _ _ _ _ (room_same _ _ _ _ _ _ _ (steps_read _ _ _ _ _ if1-left if2-taken) steps-room) _ _ put_step _ refl in
    omega arith

pub put_steps-later-requires : goal.put_steps-later-requires
put_steps-later-requires t c = let (readable, steps-room) = c.requires in
    let if1-left = c.if-left-eq0.false in
    let if2-taken = c.if-log-from-eq-READ_LOGGED.true in
    let put_step = c.put_step-nodes.ensures in let some = if1-left in
    (omega arith, ((readable_next _ _ _ _ _ if1-left readable), room_steps _ _ _ _ _ _ _ (room_same _ _ _ _ _ _ _ (steps_read _ _ _ _ _ if1-left if2-taken) steps-room) _ _ put_step _ c.put_number.ensures))

pub overflow_add-result : goal.overflow_add-result
overflow_add-result t c = let (_, steps-room) = c.requires in
    let if1-left = c.if-left-eq0.false in
    let if2-taken = c.if-log-from-eq-READ_LOGGED.true in
    let put_step = c.put_step-nodes.ensures in
    let put-number = c.put_number in
    let put-steps-count = c.put_steps-later.ensures.count in
    let later = room_steps _ _ _ _ _ _ _ (room_same _ _ _ _ _ _ _ (steps_read _ _ _ _ _ if1-left if2-taken) steps-room) _ _ put_step _ put-number.ensures in
    omega (arith, later.space, put-steps-count, put-number.auto.out)

pub overflow_add-result-then-log-from-eq-READ_LOGGED : goal.overflow_add-result-then-log-from-eq-READ_LOGGED
overflow_add-result-then-log-from-eq-READ_LOGGED t c = let (_, steps-room) = c.requires in
    let if1-left = c.if-left-eq0.false in
    let if2-taken = c.if-log-from-eq-READ_LOGGED.true in
    let put_step = c.put_step-nodes.ensures in
    let put-number = c.put_number.ensures in
    let put-steps-nodes = c.put_steps-later.ensures.nodes in
    let later = room_steps _ _ _ _ _ _ _ (room_same _ _ _ _ _ _ _ (steps_read _ _ _ _ _ if1-left if2-taken) steps-room) _ _ put_step _ put-number in
    omega (arith, later.numbers, put-steps-nodes)

pub put_steps-requires : goal.put_steps-requires
put_steps-requires t c = let (readable, steps-room) = c.requires in
    let if1-left = c.if-left-eq0.false in let some = if1-left in
    (omega arith, ((readable_next _ _ _ _ _ if1-left readable), room_same _ _ _ _ _ _ _ (steps_other _ _ _ _ _ if1-left c.if-log-from-eq-READ_LOGGED.false) steps-room))

pub returns-then-left-eq0 : goal.returns-then-left-eq0
returns-then-left-eq0 t c = put_same _ _ _ _ _ _ _ _ _ _ (steps_none _ _ _ _ _ c.if-left-eq0.true) (put_none _ _ _ _ _)

pub shape_of-roots-then-log-from-eq-READ_LOGGED : goal.shape_of-roots-then-log-from-eq-READ_LOGGED
shape_of-roots-then-log-from-eq-READ_LOGGED t c = c.put_steps-later.auto.roots ∙ c.put_number.auto.out

pub shape_of-out-then-log-from-eq-READ_LOGGED : goal.shape_of-out-then-log-from-eq-READ_LOGGED
shape_of-out-then-log-from-eq-READ_LOGGED t c = let put-step-kept = c.put_step-nodes.auto.out in
    let put-steps-kept = c.put_steps-later.auto.out in
    put-steps-kept ∙ put-step-kept

pub returns-then-log-from-eq-READ_LOGGED : goal.returns-then-log-from-eq-READ_LOGGED
returns-then-log-from-eq-READ_LOGGED t c = let (_, steps-room) = c.requires in
    let if1-left = c.if-left-eq0.false in
    let if2-taken = c.if-log-from-eq-READ_LOGGED.true in
    let put_step = c.put_step-nodes.ensures in
    let put-number = c.put_number.ensures in
    let put-steps-2 = c.put_steps-later.ensures in
    put_same _ _ _ _ _ _ _ _ _ _ (steps_read _ _ _ _ _ if1-left if2-taken) (put_first _ _ _ _ _ _ _ (room_same _ _ _ _ _ _ _ (steps_read _ _ _ _ _ if1-left if2-taken) steps-room) _ _ put_step _ put-number _ _ _ put-steps-2)

pub shape_of-roots-else-log-from-eq-READ_LOGGED : goal.shape_of-roots-else-log-from-eq-READ_LOGGED
shape_of-roots-else-log-from-eq-READ_LOGGED t c = c.put_steps.auto.roots

pub shape_of-out-else-log-from-eq-READ_LOGGED : goal.shape_of-out-else-log-from-eq-READ_LOGGED
shape_of-out-else-log-from-eq-READ_LOGGED t c = c.put_steps.auto.out

pub returns-else-log-from-eq-READ_LOGGED : goal.returns-else-log-from-eq-READ_LOGGED
returns-else-log-from-eq-READ_LOGGED t c = let if1-left = c.if-left-eq0.false in
    let if2-left = c.if-log-from-eq-READ_LOGGED.false in
    put_same _ _ _ _ _ _ _ _ _ _ (steps_other _ _ _ _ _ if1-left if2-left) c.put_steps.ensures
