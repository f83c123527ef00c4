-- The root statement, then the verify above it where there is one.
-- What is written with a verify stands above the other answers: another node in its place is refused here first.
use Rattle.kit.specs.Names.{arith}
use Rattle.write_function_bodies.proofs.Passages.{root_ready, unverified, verify_room, verify_fits, verified_parent, verified_written}
use Rattle.write_function_bodies.proofs.write_passage.Goals as goal

pub write_statement-body-requires : goal.write_statement-body-requires
write_statement-body-requires c = let pre = c.requires in
    root_ready _ _ _ _ _ _ _ _ _ pre _ _ c.function_end.ensures.value c.two_bytes_at-root.ensures.value

pub overflow_mul-nodes : goal.overflow_mul-nodes
overflow_mul-nodes c = let pre = c.requires in
    let function-end = c.function_end.ensures.value in
    let two-bytes-at = c.two_bytes_at-root.ensures.value in
    let write-statement = c.write_statement-body.ensures in
    let room = verify_room _ _ _ _ _ _ _ _ _ pre _ _ function-end two-bytes-at _ _ write-statement c.if-verified.true in
    omega (arith, room.numbers)

pub overflow_add-at : goal.overflow_add-at
overflow_add-at c = let pre = c.requires in
    let function-end = c.function_end.ensures.value in
    let two-bytes-at = c.two_bytes_at-root.ensures.value in
    let write-statement = c.write_statement-body in
    let room = verify_room _ _ _ _ _ _ _ _ _ pre _ _ function-end two-bytes-at _ _ write-statement.ensures c.if-verified.true in
    omega (arith, room.bytes, write-statement.auto.out)

pub put_leaf-requires : goal.put_leaf-requires
put_leaf-requires c = let pre = c.requires in
    let function-end = c.function_end.ensures.value in
    let two-bytes-at = c.two_bytes_at-root.ensures.value in
    let write-statement = c.write_statement-body.ensures in
    verify_fits _ _ _ _ _ _ _ _ _ pre _ _ function-end two-bytes-at _ _ write-statement c.if-verified.true

pub put_above_two-requires : goal.put_above_two-requires
put_above_two-requires c = let pre = c.requires in
    let function-end = c.function_end.ensures.value in
    let two-bytes-at = c.two_bytes_at-root.ensures.value in
    let write-statement = c.write_statement-body.ensures in
    let if1-taken = c.if-verified.true in
    verified_parent _ _ _ _ _ _ _ _ _ pre _ _ function-end two-bytes-at _ _ write-statement if1-taken _ c.put_leaf.ensures.0

pub returns-then-verified : goal.returns-then-verified
returns-then-verified c = let pre = c.requires in
    let function-end = c.function_end.ensures.value in
    let two-bytes-at = c.two_bytes_at-root.ensures.value in
    let write-statement = c.write_statement-body.ensures in
    let if1-taken = c.if-verified.true in
    let put-leaf = c.put_leaf.ensures.0 in
    let put-above-two = c.put_above_two.ensures in
    verified_written _ _ _ _ _ _ _ _ _ pre _ _ function-end two-bytes-at _ _ write-statement if1-taken _ put-leaf _ _ put-above-two.0
    put-above-two.1

pub returns-else-verified : goal.returns-else-verified
returns-else-verified c = let pre = c.requires in
    let function-end = c.function_end.ensures.value in
    let two-bytes-at = c.two_bytes_at-root.ensures.value in
    let write-statement = c.write_statement-body.ensures in
    unverified _ _ _ _ _ _ _ _ _ pre _ _ function-end two-bytes-at _ _ write-statement c.if-verified.false
