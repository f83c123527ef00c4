-- The openings first, then the rest from the log.
use Rattle.kit.specs.Names.{sym, arith}
use Rattle.ledger_contents.specs.Contents.{contents_of}
use Rattle.ledger_18_variables.proofs.Forms.{openings_refuse}
use Rattle.ledger_18_variables.proofs.Room.{private_few, log_ready, log_short, log_long, log_cut, variables_told}
use Rattle.write_function_room.proofs.Room.{private_counted}
use Rattle.ledger_18_variables.proofs.variables_fit.Goals as goal

pub function_log-end-requires : goal.function_log-end-requires
function_log-end-requires c =
    let file = c.args.function.now.file.now in let at = c.args.function.now.at in
    let same = private_counted file at _ _ c.byte_at-count.ensures.value c.count_private-private.ensures in
    log_ready file at c.requires _ same _ c.empty_log-log.ensures

pub slice_bounds-log-end : goal.slice_bounds-log-end
slice_bounds-log-end c =
    let file = c.args.function.now.file.now in let at = c.args.function.now.at in
    let same = private_counted file at _ _ c.byte_at-count.ensures.value c.count_private-private.ensures in
    let short = log_short file at c.requires _ same _ _ c.function_log-end.result c.function_log-end.ensures in
    let long = log_long file at c.requires _ same _ _ c.function_log-end.result c.function_log-end.ensures c.empty_log-log.ensures in
    omega (arith, short, long)

pub slice_bounds-log_fits-end : goal.slice_bounds-log_fits-end
slice_bounds-log_fits-end c =
    let file = c.args.function.now.file.now in let at = c.args.function.now.at in
    let same = private_counted file at _ _ c.byte_at-count.ensures.value c.count_private-private.ensures in
    sym (log_cut file at c.requires _ same _ _ c.function_log-end.result c.function_log-end.ensures c.empty_log-log.ensures)

pub log_fits-requires : goal.log_fits-requires
log_fits-requires c =
    let file = c.args.function.now.file.now in let at = c.args.function.now.at in
    let same = private_counted file at _ _ c.byte_at-count.ensures.value c.count_private-private.ensures in
    let short = log_short file at c.requires _ same _ _ c.function_log-end.result c.function_log-end.ensures in
    let cut = log_cut file at c.requires _ same _ _ c.function_log-end.result c.function_log-end.ensures c.empty_log-log.ensures in
    (private_few file at c.requires _ same, omega (arith, short, cut))

pub returns-then-openings_fit : goal.returns-then-openings_fit
returns-then-openings_fit c =
    let file = c.args.function.now.file.now in let at = c.args.function.now.at in
    let same = private_counted file at _ _ c.byte_at-count.ensures.value c.count_private-private.ensures in
    variables_told file at c.requires _ same _ _ c.function_log-end.result c.function_log-end.ensures c.args.addresses.now c.args.flat.now _ _
    c.openings_fit.ensures c.if-openings_fit.true c.log_fits.ensures

pub returns-else-openings_fit : goal.returns-else-openings_fit
returns-else-openings_fit c =
    let file = c.args.function.now.file.now in let at = c.args.function.now.at in
    openings_refuse file at c.args.addresses.now (contents_of c.args.flat.now) _ c.openings_fit.ensures c.if-openings_fit.false
