-- The log, the nodes and constraints written from it, and the walk of what is written.
use Rattle.walk_function.proofs.Walks.{log_ready, function_ready, last_ready, function_walked}
use Rattle.write_function_room.proofs.Room.{private_counted}
use Rattle.walk_function.proofs.walk_function.Goals as goal

pub function_log-end-requires : goal.function_log-end-requires
function_log-end-requires c = let counted = private_counted c.args.function.now.file.now c.args.function.now.at _ _ c.byte_at-count.ensures.value c.count_private-private.ensures in
    log_ready _ _ _ _ _ _ c.requires _ counted

pub put_function-extent-requires : goal.put_function-extent-requires
put_function-extent-requires c = let byte_at = c.byte_at-count.ensures.value in
    let count-private = c.count_private-private.ensures in
    let function-log = c.function_log-end.ensures in
    let counted = private_counted c.args.function.now.file.now c.args.function.now.at _ _ byte_at count-private in
    function_ready _ _ _ _ _ _ c.requires _ counted _ _ function-log

pub run_last-requires : goal.run_last-requires
run_last-requires c = λ bytes. last_ready _ _ _ _ _ _ c.requires bytes _ _ _ c.put_function-extent.ensures

pub returns : goal.returns
returns c = function_walked _ _ _ _ _ _ c.requires c.run_last.ensures.bytes _ _ _ c.put_function-extent.ensures _ _ _ _ _ c.run_last.ensures.ran
