use Rattle.std.specs.Prelude.{◌<◌}
use Rattle.kit.specs.Names.{refl, ◌∙◌, arith}
use Rattle.definitions.specs.ContractFile.{function_count}
use Rattle.file_accepted.proofs.Sources.{context_with}
use Rattle.write_function_room.proofs.Room.{function_room, functions_few}
use Rattle.write_parts.proofs.Parts.{none_put, places_fit, one_put, next_start, all_put}
use Rattle.write_parts.proofs.write_functions.Goals as goal

pub loop-f-init : goal.loop-f-init
loop-f-init c = let args-file = c.args.file.now in
    let (functions-ready, _) = c.requires in
    (none_put args-file _ _ _ functions-ready.behind_fields _ c.no_counts-counts.ensures, functions-ready.begins, refl, refl, refl, refl, refl)

pub invariant_of-function : goal.invariant_of-function
invariant_of-function c = let args = c.args in let (ready, _) = c.requires in
    let (functions-put, function-at-is, _, _, _, _, _) = c.loop-f.invariant in
    let room = places_fit args.file.now args.headings.now args.nodes.now args.from c.loop-f.f _ _ _ _ _ functions-put _ function-at-is
    (function_room args.file.now ready.ready.accepted c.loop-f.f (omega (arith, ready.counted))) in
    record { context = context_with args.file.now _ args.source.now room.context ready.held }

pub write_function-written-requires : goal.write_function-written-requires
write_function-written-requires c = let args = c.args in let (functions-ready, space) = c.requires in
    let loop-f = c.loop-f.f in
    let (functions-put, function-at-is, _, _, _, _, _) = c.loop-f.invariant in
    let ready = functions-ready in record {
      room = places_fit args.file.now args.headings.now args.nodes.now args.from loop-f _ _ _ _ _ functions-put _ function-at-is (function_room args.file.now ready.ready.accepted loop-f (omega (arith, ready.counted)));
      log_space = omega (arith, space.log_space);
      root_space = omega (arith, space.root_space);
      number_space = omega (arith, space.number_space);
      heading_space = omega (arith, ready.ready.heading_space);
      node_space = omega (arith, ready.ready.node_space);
    }

pub behind-all-requires : goal.behind-all-requires
behind-all-requires c = let args = c.args in let (functions-ready, _) = c.requires in let ready = functions-ready in
    let (functions-put, function-at-is, _, _, _, _, _) = c.loop-f.invariant in
    let write-function-count = c.write_function-written.ensures.count in
    let room = places_fit args.file.now args.headings.now args.nodes.now args.from c.loop-f.f _ _ _ _ _ functions-put _ function-at-is (function_room args.file.now ready.ready.accepted c.loop-f.f (omega (arith, ready.counted))) in
    omega (arith, room.nodes, write-function-count)

pub with_crossings-counts-requires : goal.with_crossings-counts-requires
with_crossings-counts-requires c = let (functions-ready, _) = c.requires in
    omega (arith, functions-ready.counted, functions_few c.args.file.now functions-ready.ready.accepted)

pub function_end-function_at-requires : goal.function_end-function_at-requires
function_end-function_at-requires c = let args = c.args in let (functions-ready, _) = c.requires in let ready = functions-ready in
    let (functions-put, function-at-is, _, _, _, _, _) = c.loop-f.invariant in
    let room = places_fit args.file.now args.headings.now args.nodes.now args.from c.loop-f.f _ _ _ _ _ functions-put _ function-at-is (function_room args.file.now ready.ready.accepted c.loop-f.f (omega (arith, ready.counted))) in
    room.context.near_function

pub loop-f-preserved : goal.loop-f-preserved
loop-f-preserved c = let file = c.args.file.now in let ready = c.requires.0 in
    let loop = c.loop-f in
    let inside : loop.f < function_count file = omega (arith, ready.counted) in
    let room = function_room file ready.ready.accepted loop.f inside in
    let w = c.write_function-written.ensures in
    let kept = c.write_function-written.auto in
    let (_, _, log_long, roots-long, numbers_long, headings-long, nodes_long) = loop.invariant in
    let moved = c.behind-all.ensures in (
      one_put file c.args.headings.now c.args.nodes.now c.args.from loop.f _ _ _ _ _ loop.invariant.0 inside room
          ready.behind_fields ready.ready.heading_space ready.ready.node_space loop.function_at _ _ _ _ _ _ _ loop.invariant.1 w.heading
          (moved.0 ∙ w.end) w.contents w.count moved.1 (functions_few file ready.ready.accepted) w.crossings c.with_crossings-counts.ensures,
      next_start file loop.f _ _ loop.invariant.1 c.function_end-function_at.ensures.value,
      kept.log ∙ log_long,
      kept.roots ∙ roots-long,
      kept.numbers ∙ numbers_long,
      kept.headings ∙ headings-long,
      kept.nodes ∙ nodes_long,
    )

pub returns : goal.returns
returns c = let args-file = c.args.file.now in
    let (functions-ready, _) = c.requires in let (functions-put, _, _, _, _, _, _) = c.loop-f.invariant in
    all_put args-file _ _ _ _ _ _ c.loop-f.f _ _ (omega (arith, functions-ready.counted)) functions-put
