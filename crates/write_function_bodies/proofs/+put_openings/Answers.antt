use Rattle.kit.specs.Names.{◌∙◌, arith}
use Rattle.write_function_bodies.proofs.Openings.{nothing_put, public_room, public_put, parameter_room, root_room, opening_room, openings_room, openings_put}
use Rattle.write_function_bodies.proofs.+put_openings.Goals as goal

pub returns-then-left-eq0 : goal.returns-then-left-eq0
returns-then-left-eq0 t c = nothing_put _ _ _ _ _ _ _ _ _ c.if-left-eq0.true

pub overflow_add-next : goal.overflow_add-next
overflow_add-next t c = let (_, (_, (place-bound, _))) = c.requires in let some = c.if-left-eq0.false in
    omega (arith, place-bound)

pub overflow_add-place : goal.overflow_add-place
overflow_add-place t c = let (_, (_, (place-bound, _))) = c.requires in
    let some = c.if-left-eq0.false in omega (arith, place-bound)

pub byte_at-requires : goal.byte_at-requires
byte_at-requires t c = tt

pub overflow_sub-left : goal.overflow_sub-left
overflow_sub-left t c = let some = c.if-left-eq0.false in omega arith

pub overflow_add-k : goal.overflow_add-k
overflow_add-k t c = let (k-bound, _) = c.requires in let some = c.if-left-eq0.false in
    omega (arith, k-bound)

pub put_openings-requires : goal.put_openings-requires
put_openings-requires t c = let (k-bound, (i-bound, (place-bound, steps-room))) = c.requires in
    let if1-left = c.if-left-eq0.false in let some = if1-left in
    (omega arith, (omega (arith, k-bound), (omega (arith, i-bound), (omega (arith, place-bound), public_room _ _ _ _ _ _ _ _ _ if1-left _ c.byte_at.ensures.value steps-room c.if-byte_at-eq0.true))))

pub shape_of-roots-then-byte_at-eq0 : goal.shape_of-roots-then-byte_at-eq0
shape_of-roots-then-byte_at-eq0 t c = c.put_openings.auto.roots

pub shape_of-out-then-byte_at-eq0 : goal.shape_of-out-then-byte_at-eq0
shape_of-out-then-byte_at-eq0 t c = c.put_openings.auto.out

pub returns-then-byte_at-eq0 : goal.returns-then-byte_at-eq0
returns-then-byte_at-eq0 t c = let (_, (_, (_, steps-room))) = c.requires in
    let if1-left = c.if-left-eq0.false in
    let byte_at = c.byte_at.ensures.value in
    let if2-taken = c.if-byte_at-eq0.true in
    public_put _ _ _ _ _ _ _ _ _ if1-left _ byte_at steps-room if2-taken _ _ _ c.put_openings.ensures

pub overflow_cast-k : goal.overflow_cast-k
overflow_cast-k t c = let (k-bound, _) = c.requires in let some = c.if-left-eq0.false in
    omega (arith, k-bound)

pub put_leaf-requires : goal.put_leaf-requires
put_leaf-requires t c = let (_, (_, (_, steps-room))) = c.requires in
    parameter_room _ _ _ _ _ _ _ _ _ c.if-left-eq0.false _ c.byte_at.ensures.value steps-room c.if-byte_at-eq0.false

pub put_setting-requires : goal.put_setting-requires
put_setting-requires t c = let (_, (_, (_, steps-room))) = c.requires in
    let if1-left = c.if-left-eq0.false in
    let byte_at = c.byte_at.ensures.value in
    let if2-left = c.if-byte_at-eq0.false in
    opening_room _ _ _ _ _ _ _ _ _ if1-left _ byte_at steps-room if2-left _ c.put_leaf.ensures.0

pub overflow_add-base : goal.overflow_add-base
overflow_add-base t c = let (_, (_, (_, steps-room))) = c.requires in
    let if1-left = c.if-left-eq0.false in
    let byte_at = c.byte_at.ensures.value in
    let if2-left = c.if-byte_at-eq0.false in
    let put-leaf = c.put_leaf.ensures.0 in
    let fits = opening_room _ _ _ _ _ _ _ _ _ if1-left _ byte_at steps-room if2-left _ put-leaf in omega (arith, fits.1.0)

pub overflow_cast-base : goal.overflow_cast-base
overflow_cast-base t c = let (_, (_, (_, steps-room))) = c.requires in
    let if1-left = c.if-left-eq0.false in
    let byte_at = c.byte_at.ensures.value in
    let if2-left = c.if-byte_at-eq0.false in
    let put-leaf = c.put_leaf.ensures.0 in
    let fits = opening_room _ _ _ _ _ _ _ _ _ if1-left _ byte_at steps-room if2-left _ put-leaf in omega (arith, fits.1.0)

pub put_number-requires : goal.put_number-requires
put_number-requires t c = let (_, (_, (_, steps-room))) = c.requires in
    let if1-left = c.if-left-eq0.false in
    let byte_at = c.byte_at.ensures.value in
    let if2-left = c.if-byte_at-eq0.false in
    root_room _ _ _ _ _ _ _ _ _ if1-left _ byte_at steps-room if2-left

pub overflow_sub-left-2 : goal.overflow_sub-left-2
overflow_sub-left-2 t c = let some = c.if-left-eq0.false in
    omega arith

pub overflow_add-k-2 : goal.overflow_add-k-2
overflow_add-k-2 t c = let (k-bound, _) = c.requires in
    let if1-left = c.if-left-eq0.false in
    let some = if1-left in omega (arith, k-bound)

pub overflow_add-i : goal.overflow_add-i
overflow_add-i t c = let (k-bound, (i-bound, _)) = c.requires in
    let if1-left = c.if-left-eq0.false in
    let some = if1-left in omega (arith, k-bound, i-bound)

pub overflow_add-at : goal.overflow_add-at
overflow_add-at t c = let (_, (_, (_, steps-room))) = c.requires in
    let if1-left = c.if-left-eq0.false in
    let byte_at = c.byte_at.ensures.value in
    let if2-left = c.if-byte_at-eq0.false in
    let put-leaf = c.put_leaf in
    let put-setting = c.put_setting in
    let room = openings_room _ _ _ _ _ _ _ _ _ if1-left _ byte_at steps-room if2-left _ put-leaf.ensures.0 _ put-setting.ensures.0 _ c.put_number.ensures in
    omega (arith, room.bytes, put-setting.auto.out, put-leaf.auto.out)

pub overflow_add-base-2 : goal.overflow_add-base-2
overflow_add-base-2 t c = let (_, (_, (_, steps-room))) = c.requires in
    let if1-left = c.if-left-eq0.false in
    let byte_at = c.byte_at.ensures.value in
    let if2-left = c.if-byte_at-eq0.false in
    let put-leaf = c.put_leaf.ensures.0 in
    let put-setting = c.put_setting.ensures.0 in
    let room = openings_room _ _ _ _ _ _ _ _ _ if1-left _ byte_at steps-room if2-left _ put-leaf _ put-setting _ c.put_number.ensures in
    omega (arith, room.numbers)

pub put_openings-later-requires : goal.put_openings-later-requires
put_openings-later-requires t c = let (k-bound, (i-bound, (place-bound, steps-room))) = c.requires in
    let if1-left = c.if-left-eq0.false in
    let byte_at = c.byte_at.ensures.value in
    let if2-left = c.if-byte_at-eq0.false in
    let put-leaf = c.put_leaf.ensures.0 in
    let put-setting = c.put_setting.ensures.0 in let some = if1-left in
    (omega arith, (omega (arith, k-bound), (omega (arith, i-bound), (omega (arith, place-bound), openings_room _ _ _ _ _ _ _ _ _ if1-left _ byte_at steps-room if2-left _ put-leaf _ put-setting _ c.put_number.ensures))))

pub overflow_add-result : goal.overflow_add-result
overflow_add-result t c = let (_, (_, (_, steps-room))) = c.requires in
    let if1-left = c.if-left-eq0.false in
    let byte_at = c.byte_at.ensures.value in
    let if2-left = c.if-byte_at-eq0.false in
    let put-leaf = c.put_leaf.ensures.0 in
    let put-setting = c.put_setting.ensures.0 in
    let put-number = c.put_number in
    let put-openings2-count = c.put_openings-later.ensures.count in
    let room = openings_room _ _ _ _ _ _ _ _ _ if1-left _ byte_at steps-room if2-left _ put-leaf _ put-setting _ put-number.ensures in
    omega (arith, room.space, put-openings2-count, put-number.auto.out)

pub overflow_add-result-2 : goal.overflow_add-result-2
overflow_add-result-2 t c = let (_, (_, (_, steps-room))) = c.requires in
    let if1-left = c.if-left-eq0.false in
    let byte_at = c.byte_at.ensures.value in
    let if2-left = c.if-byte_at-eq0.false in
    let put-leaf = c.put_leaf.ensures.0 in
    let put-setting = c.put_setting.ensures.0 in
    let put-number = c.put_number.ensures in
    let put-openings2-nodes = c.put_openings-later.ensures.nodes in
    let room = openings_room _ _ _ _ _ _ _ _ _ if1-left _ byte_at steps-room if2-left _ put-leaf _ put-setting _ put-number in
    omega (arith, room.numbers, put-openings2-nodes)

pub shape_of-roots : goal.shape_of-roots
shape_of-roots t c = c.put_openings-later.auto.roots ∙ c.put_number.auto.out

pub shape_of-out : goal.shape_of-out
shape_of-out t c = let put-leaf-kept = c.put_leaf.auto.out in
    let put-setting-kept = c.put_setting.auto.out in
    let put-openings2-kept = c.put_openings-later.auto.out in
    put-openings2-kept ∙ put-setting-kept ∙ put-leaf-kept

pub returns : goal.returns
returns t c = let (_, (_, (_, steps-room))) = c.requires in
    let if1-left = c.if-left-eq0.false in
    let byte_at = c.byte_at.ensures.value in
    let if2-left = c.if-byte_at-eq0.false in
    let put-leaf = c.put_leaf.ensures.0 in
    let put-setting = c.put_setting.ensures.0 in
    let put-number = c.put_number.ensures in
    let put-openings2 = c.put_openings-later.ensures in
    openings_put _ _ _ _ _ _ _ _ _ if1-left _ byte_at steps-room if2-left _ put-leaf _ put-setting _ put-number _ _ _ put-openings2
