-- The circuits, then the body, then the heading.
use Rattle.kit.specs.Names.{sym, ◌∙◌, arith, length-take-le}
use Rattle.write_functions.proofs.Functions.{circuits_ready, nodes_few, constraints_fit, log_few, body_ready, total_few, heading_ready, function_written_law}
use Rattle.write_functions.proofs.write_function.Goals as goal

pub write_circuits-parts-requires : goal.write_circuits-parts-requires
write_circuits-parts-requires c = let pre = c.requires in circuits_ready _ _ _ _ _ _ _ _ _ pre

pub overflow_add-parts : goal.overflow_add-parts
overflow_add-parts c = let pre = c.requires in
    let write-circuits = c.write_circuits-parts.ensures in
    let fit = constraints_fit _ _ _ _ _ _ _ _ _ pre _ _ _ _ write-circuits in omega arith

pub overflow_add-first : goal.overflow_add-first
overflow_add-first c = let pre = c.requires in
    let write-circuits = c.write_circuits-parts.ensures in
    let few = nodes_few _ _ _ _ _ _ _ _ _ pre _ _ _ _ write-circuits in omega arith

pub overflow_mul-first : goal.overflow_mul-first
overflow_mul-first c = let pre = c.requires in
    let write-circuits = c.write_circuits-parts.ensures in
    let few = nodes_few _ _ _ _ _ _ _ _ _ pre _ _ _ _ write-circuits in omega arith

pub write_function_body-body-requires : goal.write_function_body-body-requires
write_function_body-body-requires c = let pre = c.requires in
    let write-circuits = c.write_circuits-parts.ensures in
    body_ready _ _ _ _ _ _ _ _ _ pre _ _ _ _ write-circuits _ c.is_verified-verified.ensures

pub overflow_add-total : goal.overflow_add-total
overflow_add-total c = let pre = c.requires in
    let write-circuits = c.write_circuits-parts.ensures in
    let write-function-body = c.write_function_body-body.ensures in
    let few = total_few _ _ _ _ _ _ _ _ _ pre _ _ _ _ write-circuits _ _ write-function-body in omega arith

pub write_heading-end-requires : goal.write_heading-end-requires
write_heading-end-requires c = let pre = c.requires in
    let write-circuits = c.write_circuits-parts.ensures in
    let write-function-body = c.write_function_body-body.ensures in
    heading_ready _ _ _ _ _ _ _ _ _ pre _ _ _ _ write-circuits _ _ write-function-body

pub slice_bounds-count_crossings-end : goal.slice_bounds-count_crossings-end
slice_bounds-count_crossings-end c = let write-circuits = c.write_circuits-parts.ensures in write-circuits.told.logged

pub slice_bounds-count_crossings-end-2 : goal.slice_bounds-count_crossings-end-2
slice_bounds-count_crossings-end-2 c = let write-circuits = c.write_circuits-parts.ensures in sym (length-take-le _ _ write-circuits.told.logged)

pub count_crossings-crossings-requires : goal.count_crossings-crossings-requires
count_crossings-crossings-requires c = let pre = c.requires in
    let write-circuits = c.write_circuits-parts.ensures in
    log_few _ _ _ _ _ _ _ _ _ pre _ _ _ _ write-circuits

pub shape_of-log : goal.shape_of-log
shape_of-log c = c.write_circuits-parts.auto.log

pub shape_of-roots : goal.shape_of-roots
shape_of-roots c = c.write_function_body-body.auto.roots

pub shape_of-numbers : goal.shape_of-numbers
shape_of-numbers c = c.write_circuits-parts.auto.numbers

pub shape_of-headings : goal.shape_of-headings
shape_of-headings c = c.write_heading-end.auto.headings

pub shape_of-nodes : goal.shape_of-nodes
shape_of-nodes c = let write-circuits-kept = c.write_circuits-parts.auto.out in
    let write-function-body-kept = c.write_function_body-body.auto.out in
    write-function-body-kept ∙ write-circuits-kept

pub returns : goal.returns
returns c = let pre = c.requires in
    let write-circuits = c.write_circuits-parts.ensures in
    let write-function-body = c.write_function_body-body.ensures in
    function_written_law _ _ _ _ _ _ _ _ _ pre _ _ _ _ write-circuits _ _ write-function-body _ _ _ c.write_heading-end.ensures
    c.count_crossings-crossings.ensures
