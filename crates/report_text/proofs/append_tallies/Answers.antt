use Rattle.std.specs.Prelude.{◌<◌}
use Rattle.kit.specs.Names.{arith, length, get_or-take, length-take-le}
use Rattle.report_text.proofs.Lines.{lines_start, line_room, line_appended, lines_done}
use Rattle.report_text.proofs.append_tallies.Goals as goal

pub loop-function-init : goal.loop-function-init
loop-function-init c = let args = c.args in let (order-room, out-room) = c.requires in
    lines_start args.counts.now args.order.now order-room args.out.now args.from out-room

pub append_tally-at-requires : goal.append_tally-at-requires
append_tally-at-requires c = let args = c.args in let (order-room, out-room) = c.requires in
    let loop = c.loop-function in
    let long = length-take-le (length args.counts.now) args.order.now order-room in
    let here : loop.function-index < length args.counts.now = omega (arith, long, c.loop-function-test.true) in
    let item = get_or-take (length args.counts.now) args.order.now loop.function-index 0 here in
    let count = rw item at c.count_of.ensures in
    rw item (line_room args.counts.now args.order.now order-room args.out.now args.from out-room _ _ _ _ here count loop.invariant)

pub loop-function-preserved : goal.loop-function-preserved
loop-function-preserved c = let args = c.args in let (order-room, out-room) = c.requires in
    let loop = c.loop-function in
    let long = length-take-le (length args.counts.now) args.order.now order-room in
    let here : loop.function-index < length args.counts.now = omega (arith, long, c.loop-function-test.true) in
    let item = get_or-take (length args.counts.now) args.order.now loop.function-index 0 here in
    line_appended args.counts.now args.order.now order-room args.out.now args.from out-room _ _ loop.function-index _ _ _ here
    (rw item at c.count_of.ensures) loop.invariant (rw item at c.append_tally-at.ensures)

pub returns : goal.returns
returns c = let args = c.args in let (order-room, out-room) = c.requires in
    let long = length-take-le (length args.counts.now) args.order.now order-room in
    lines_done args.counts.now args.order.now order-room args.out.now args.from out-room _ _ _ (omega arith) c.loop-function.invariant
