-- The steps, the form and the sequences, one run behind another.
use Rattle.kit.specs.Names.{◌∙◌, arith}
use Rattle.write_steps.proofs.Nested.{nested_steps_room, nested_rest_room, nested_close_room, numbered_nested}
use Rattle.write_stepped_statements.proofs.write_single.Goals as goal

pub put_steps-steps-requires : goal.put_steps-steps-requires
put_steps-steps-requires c = let (_, (_, (readable, (roots-room, room)))) = c.requires in
    (readable, nested_steps_room _ _ _ _ _ _ room roots-room)

pub overflow_mul-steps : goal.overflow_mul-steps
overflow_mul-steps c = let (_, (_, (_, (roots-room, room)))) = c.requires in
    let put-steps = c.put_steps-steps.ensures in
    let rest = nested_rest_room _ _ _ _ _ _ room roots-room _ _ _ put-steps in omega (arith, rest.numbers)

pub overflow_add-at : goal.overflow_add-at
overflow_add-at c = let (_, (_, (_, (roots-room, room)))) = c.requires in
    let put-steps = c.put_steps-steps in
    let rest = nested_rest_room _ _ _ _ _ _ room roots-room _ _ _ put-steps.ensures in
    omega (arith, rest.bytes, put-steps.auto.out)

pub overflow_add-base : goal.overflow_add-base
overflow_add-base c = let (_, (_, (_, (roots-room, room)))) = c.requires in
    let put-steps = c.put_steps-steps.ensures in
    let rest = nested_rest_room _ _ _ _ _ _ room roots-room _ _ _ put-steps in omega (arith, rest.numbers)

pub write_statement_form-rest-requires : goal.write_statement_form-rest-requires
write_statement_form-rest-requires c = let (n-bound, (i-bound, (_, (roots-room, room)))) = c.requires in
    let put-steps = c.put_steps-steps.ensures in
    (n-bound, (i-bound, nested_rest_room _ _ _ _ _ _ room roots-room _ _ _ put-steps))

pub overflow_add-top : goal.overflow_add-top
overflow_add-top c = let (_, (_, (_, (roots-room, room)))) = c.requires in
    let put-steps = c.put_steps-steps.ensures in
    let close = nested_close_room _ _ _ _ _ _ room roots-room _ _ _ put-steps _ _ c.write_statement_form-rest.ensures in
    omega (arith, close.1.1.0)

pub overflow_add-top-2 : goal.overflow_add-top-2
overflow_add-top-2 c = let (_, (_, (_, (roots-room, room)))) = c.requires in
    let put-steps = c.put_steps-steps.ensures in
    let close = nested_close_room _ _ _ _ _ _ room roots-room _ _ _ put-steps _ _ c.write_statement_form-rest.ensures in
    omega (arith, close.1.1.0)

pub overflow_sub-top : goal.overflow_sub-top
overflow_sub-top c = let (_, (_, (_, (roots-room, room)))) = c.requires in
    let put-steps = c.put_steps-steps.ensures in
    let close = nested_close_room _ _ _ _ _ _ room roots-room _ _ _ put-steps _ _ c.write_statement_form-rest.ensures in
    omega (arith, close.0)

pub overflow_mul-steps-2 : goal.overflow_mul-steps-2
overflow_mul-steps-2 c = let (_, (_, (_, (roots-room, room)))) = c.requires in
    let put-steps = c.put_steps-steps.ensures in
    let write-statement-form = c.write_statement_form-rest.ensures in
    let close = nested_close_room _ _ _ _ _ _ room roots-room _ _ _ put-steps _ _ write-statement-form in omega (arith, close.1.1.0)

pub overflow_add-at-2 : goal.overflow_add-at-2
overflow_add-at-2 c = let (_, (_, (_, (roots-room, room)))) = c.requires in
    let put-steps = c.put_steps-steps in
    let rest = nested_rest_room _ _ _ _ _ _ room roots-room _ _ _ put-steps.ensures in
    omega (arith, rest.bytes, put-steps.auto.out)

pub overflow_mul-rest : goal.overflow_mul-rest
overflow_mul-rest c = let (_, (_, (_, (roots-room, room)))) = c.requires in
    let put-steps = c.put_steps-steps.ensures in
    let write-statement-form = c.write_statement_form-rest.ensures in
    let close = nested_close_room _ _ _ _ _ _ room roots-room _ _ _ put-steps _ _ write-statement-form in omega (arith, close.1.1.0)

pub overflow_add-at-3 : goal.overflow_add-at-3
overflow_add-at-3 c = let (_, (_, (_, (roots-room, room)))) = c.requires in
    let put-steps = c.put_steps-steps in
    let write-statement-form = c.write_statement_form-rest in
    let close = nested_close_room _ _ _ _ _ _ room roots-room _ _ _ put-steps.ensures _ _ write-statement-form.ensures in
    omega (arith, close.1.1.1, put-steps.auto.out, write-statement-form.auto.out)

pub close_steps-requires : goal.close_steps-requires
close_steps-requires c = let (_, (_, (_, (roots-room, room)))) = c.requires in
    let put-steps = c.put_steps-steps.ensures in
    let write-statement-form = c.write_statement_form-rest.ensures in
    (nested_close_room _ _ _ _ _ _ room roots-room _ _ _ put-steps _ _ write-statement-form).1

pub overflow_add-result : goal.overflow_add-result
overflow_add-result c = let (_, (_, (_, (roots-room, room)))) = c.requires in
    let put-steps = c.put_steps-steps.ensures in
    let write-statement-form = c.write_statement_form-rest.ensures in
    let close = nested_close_room _ _ _ _ _ _ room roots-room _ _ _ put-steps _ _ write-statement-form in omega (arith, close.1.1.0)

pub overflow_add-result-2 : goal.overflow_add-result-2
overflow_add-result-2 c = let (_, (_, (_, (roots-room, room)))) = c.requires in
    let put-steps = c.put_steps-steps.ensures in
    let write-statement-form = c.write_statement_form-rest.ensures in
    let close = nested_close_room _ _ _ _ _ _ room roots-room _ _ _ put-steps _ _ write-statement-form in
    omega (arith, close.0, close.1.1.0)

pub shape_of-roots : goal.shape_of-roots
shape_of-roots c = c.put_steps-steps.auto.roots

pub shape_of-out : goal.shape_of-out
shape_of-out c = let put-steps-kept = c.put_steps-steps.auto.out in
    let write-statement-form-kept = c.write_statement_form-rest.auto.out in
    c.close_steps.auto.out ∙ write-statement-form-kept ∙ put-steps-kept

pub returns : goal.returns
returns c = let (_, (_, (_, (roots-room, room)))) = c.requires in
    let put-steps = c.put_steps-steps.ensures in
    let write-statement-form = c.write_statement_form-rest.ensures in
    numbered_nested _ _ _ _ _ _ room roots-room _ _ _ put-steps _ _ write-statement-form _ c.close_steps.ensures
