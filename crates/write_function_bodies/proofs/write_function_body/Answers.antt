-- The openings, the passage behind them and the sequences that nest them.
use Rattle.std.specs.Prelude.{◌-◌}
use Rattle.kit.specs.Names.{sym, arith, length}
use borrow.Rule.Slice.PartMut.{put_mid, take_put}
use Rattle.write_function_bodies.proofs.Passages.{openings_ready, openings_fit, passage_ready, body_close, body_written}
use Rattle.write_function_bodies.proofs.write_function_body.Goals as goal

pub put_openings-opened-requires : goal.put_openings-opened-requires
put_openings-opened-requires c = openings_ready _ _ _ c.args.function.now.context _ _ _ _ _ _ _ c.requires _
    c.byte_at-parameters.ensures.value

pub overflow_mul-place : goal.overflow_mul-place
overflow_mul-place c = let pre = c.requires in
    let byte_at = c.byte_at-parameters.ensures.value in
    let put-openings = c.put_openings-opened.ensures in
    let fits = openings_fit _ _ _ c.args.function.now.context _ _ _ _ _ _ _ pre _ byte_at _ _ _ put-openings in omega (arith, fits.1.1)

pub overflow_add-place : goal.overflow_add-place
overflow_add-place c = let pre = c.requires in
    let byte_at = c.byte_at-parameters.ensures.value in
    let put-openings = c.put_openings-opened.ensures in
    let fits = openings_fit _ _ _ c.args.function.now.context _ _ _ _ _ _ _ pre _ byte_at _ _ _ put-openings in omega (arith, fits.1.0)

pub overflow_add-number : goal.overflow_add-number
overflow_add-number c = let pre = c.requires in
    let byte_at = c.byte_at-parameters.ensures.value in
    let put-openings = c.put_openings-opened.ensures in
    let fits = openings_fit _ _ _ c.args.function.now.context _ _ _ _ _ _ _ pre _ byte_at _ _ _ put-openings in omega (arith, fits.1.1)

pub offset_bounds-roots-count : goal.offset_bounds-roots-count
offset_bounds-roots-count c = let pre = c.requires in
    let byte_at = c.byte_at-parameters.ensures.value in
    let put-openings = c.put_openings-opened.ensures in
    let fits = openings_fit _ _ _ c.args.function.now.context _ _ _ _ _ _ _ pre _ byte_at _ _ _ put-openings in omega (arith, fits.1.1)

pub slice_bounds-write_passage-count : goal.slice_bounds-write_passage-count
slice_bounds-write_passage-count c = let fits = openings_fit _ _ _ c.args.function.now.context _ _ _ _ _ _ _ c.requires _
    c.byte_at-parameters.ensures.value _ _ _ c.put_openings-opened.ensures in
    omega (arith, fits.0, c.put_openings-opened.auto.roots)

pub write_passage-rest-requires : goal.write_passage-rest-requires
write_passage-rest-requires c = let pre = c.requires in
    let byte_at = c.byte_at-parameters.ensures.value in
    let put-openings = c.put_openings-opened in
    passage_ready _ _ _ c.args.function.now.context _ _ _ _ _ _ _ pre _ byte_at _ _ _ put-openings.ensures _
    (sym c.write_passage-arg-1.given.1) put-openings.auto.roots

pub overflow_add-number-2 : goal.overflow_add-number-2
overflow_add-number-2 c = let pre = c.requires in
    let byte_at = c.byte_at-parameters.ensures.value in
    let put-openings = c.put_openings-opened.ensures in
    let write-passage = c.write_passage-rest.ensures in
    let close = body_close _ _ _ c.args.function.now.context _ _ _ _ _ _ _ pre _ byte_at _ _ _ put-openings _ _ write-passage in
    omega (arith, close.0, close.1.1.0)

pub overflow_sub-number : goal.overflow_sub-number
overflow_sub-number c = let pre = c.requires in
    let byte_at = c.byte_at-parameters.ensures.value in
    let put-openings = c.put_openings-opened.ensures in
    let write-passage = c.write_passage-rest.ensures in
    let close = body_close _ _ _ c.args.function.now.context _ _ _ _ _ _ _ pre _ byte_at _ _ _ put-openings _ _ write-passage in
    omega (arith, close.0)

pub overflow_mul-rest : goal.overflow_mul-rest
overflow_mul-rest c = let pre = c.requires in
    let byte_at = c.byte_at-parameters.ensures.value in
    let put-openings = c.put_openings-opened.ensures in
    let write-passage = c.write_passage-rest.ensures in
    let close = body_close _ _ _ c.args.function.now.context _ _ _ _ _ _ _ pre _ byte_at _ _ _ put-openings _ _ write-passage in
    omega (arith, close.1.1.0)

pub overflow_add-place-2 : goal.overflow_add-place-2
overflow_add-place-2 c = let pre = c.requires in
    let byte_at = c.byte_at-parameters.ensures.value in
    let put-openings = c.put_openings-opened in
    let write-passage = c.write_passage-rest in
    let close = body_close _ _ _ c.args.function.now.context _ _ _ _ _ _ _ pre _ byte_at _ _ _ put-openings.ensures _ _
    write-passage.ensures in
    omega (arith, close.1.1.1, write-passage.auto.out, put-openings.auto.out)

pub close_steps-requires : goal.close_steps-requires
close_steps-requires c = let pre = c.requires in
    let byte_at = c.byte_at-parameters.ensures.value in
    let put-openings = c.put_openings-opened.ensures in
    let write-passage = c.write_passage-rest.ensures in
    let roots2 = c.roots-2-1.given.1 in
    let close = body_close _ _ _ c.args.function.now.context _ _ _ _ _ _ _ pre _ byte_at _ _ _ put-openings _ _ write-passage in
    (omega (arith, close.1.0, roots2), close.1.1)

pub overflow_add-result : goal.overflow_add-result
overflow_add-result c = let pre = c.requires in
    let byte_at = c.byte_at-parameters.ensures.value in
    let put-openings = c.put_openings-opened.ensures in
    let write-passage = c.write_passage-rest.ensures in
    let close = body_close _ _ _ c.args.function.now.context _ _ _ _ _ _ _ pre _ byte_at _ _ _ put-openings _ _ write-passage in
    omega (arith, close.0, close.1.1.0)

pub overflow_add-result-2 : goal.overflow_add-result-2
overflow_add-result-2 c = let pre = c.requires in
    let byte_at = c.byte_at-parameters.ensures.value in
    let put-openings = c.put_openings-opened.ensures in
    let write-passage = c.write_passage-rest.ensures in
    let close = body_close _ _ _ c.args.function.now.context _ _ _ _ _ _ _ pre _ byte_at _ _ _ put-openings _ _ write-passage in
    omega (arith, close.0, close.1.1.0)

pub returns : goal.returns
returns c = let pre = c.requires in
    let byte_at = c.byte_at-parameters.ensures.value in
    let put-openings = c.put_openings-opened in
    let write-passage = c.write_passage-rest in
    let kept = put-openings.new.roots in let changed = write-passage.new.roots in
    let count = put-openings.result.count in
    body_written _ _ _ c.args.function.now.context _ _ _ _ _ _ _ pre _ byte_at _ _ _ put-openings.ensures _ _ write-passage.ensures
    (put_mid count (length kept - count) kept changed) _ (take_put count (length kept - count) kept changed
    (body_close _ _ _ c.args.function.now.context _ _ _ _ _ _ _ pre _ byte_at _ _ _ put-openings.ensures _ _
    write-passage.ensures).1.0) c.close_steps.ensures

pub slice_bounds-write_passage-start : goal.slice_bounds-write_passage-start
slice_bounds-write_passage-start c = slice_bounds-write_passage-count c
