-- The end of the condition's events, its steps and its form.
use Rattle.kit.specs.Names.{arith}
use Rattle.write_bodies.proofs.Logged.{condition_inside, condition_behind, steps_ready, form_ready, condition_written}
use Rattle.write_bodies.proofs.write_condition.Goals as goal

pub find_end-end-requires : goal.find_end-end-requires
find_end-end-requires c = condition_inside _ _ _ _ _ _ _ _ _ c.requires

pub overflow_sub-entries : goal.overflow_sub-entries
overflow_sub-entries c = let behind = condition_behind _ _ _ _ _ _ _ _ _ c.requires _ c.find_end-end.ensures in omega arith

pub put_steps-steps-requires : goal.put_steps-steps-requires
put_steps-steps-requires c = steps_ready _ _ _ _ _ _ _ _ _ c.requires _ c.find_end-end.ensures

pub overflow_mul-place : goal.overflow_mul-place
overflow_mul-place c = let room = (form_ready _ _ _ _ _ _ _ _ _ c.requires _ c.find_end-end.ensures _ _ _ c.put_steps-steps.ensures).1.1 in
    omega (arith, room.numbers)

pub overflow_add-place : goal.overflow_add-place
overflow_add-place c = let put-steps = c.put_steps-steps in
    let room = (form_ready _ _ _ _ _ _ _ _ _ c.requires _ c.find_end-end.ensures _ _ _ put-steps.ensures).1.1 in
    omega (arith, room.bytes, put-steps.auto.out)

pub overflow_add-first : goal.overflow_add-first
overflow_add-first c = let room = (form_ready _ _ _ _ _ _ _ _ _ c.requires _ c.find_end-end.ensures _ _ _ c.put_steps-steps.ensures).1.1 in
    omega (arith, room.numbers)

pub write_body_form-form-requires : goal.write_body_form-form-requires
write_body_form-form-requires c = form_ready _ _ _ _ _ _ _ _ _ c.requires _ c.find_end-end.ensures _ _ _ c.put_steps-steps.ensures

pub returns : goal.returns
returns c = condition_written _ _ _ _ _ _ _ _ _ c.requires _ c.find_end-end.ensures _ _ _ c.put_steps-steps.ensures _ _
    c.write_body_form-form.ensures
