-- The writing in a room of its own, then the text of its counts, then in the output where it fits.
use Rattle.kit.specs.Names.{sym, ◌∙◌, arith}
use Rattle.check_refusals.proofs.Refusals.{refuses, accepts}
use Rattle.report_contract.proofs.Texts.{own_number, file_refused, counts_handed, text_end, text_taken, reported}
use Rattle.report_contract.proofs.report.Goals as goal

pub returns-then-is_refused : goal.returns-then-is_refused
returns-then-is_refused c = let args = c.args in
    let some = refuses c.write-written.result.number _ c.is_refused.ensures c.if-is_refused.true in
    let its = own_number args.file.now _ _ c.write-written.ensures.0 c.written_room-room.ensures in
    let refused = file_refused args.file.now args.out.now _ its some in (refused.given, refused.long, refused.output)

pub append_counts-length-requires : goal.append_counts-length-requires
append_counts-length-requires c = let its = own_number c.args.file.now _ _ c.write-written.ensures.0 c.written_room-room.ensures in
    let clear = accepts _ _ c.is_refused.ensures c.if-is_refused.false in
    let accepted = sym its ∙ clear in let args = c.args in
    (accepted, counts_handed args.file.now accepted _ _ _ c.write-written.ensures.0 clear c.write-written.ensures.1.1.0, omega (arith, c.text_room-text.ensures))

pub slice_bounds-text-end : goal.slice_bounds-text-end
slice_bounds-text-end c = let its = own_number c.args.file.now _ _ c.write-written.ensures.0 c.written_room-room.ensures in
    let clear = accepts _ _ c.is_refused.ensures c.if-is_refused.false in
    let accepted = sym its ∙ clear in let args = c.args in
    omega (arith, text_end args.file.now accepted _ _ _ c.append_counts-length.ensures c.text_room-text.ensures)

pub slice_bounds-hand_out-end : goal.slice_bounds-hand_out-end
slice_bounds-hand_out-end c = let its = own_number c.args.file.now _ _ c.write-written.ensures.0 c.written_room-room.ensures in
    let clear = accepts _ _ c.is_refused.ensures c.if-is_refused.false in
    let accepted = sym its ∙ clear in let args = c.args in
    text_taken args.file.now accepted _ _ _ c.append_counts-length.ensures c.text_room-text.ensures

pub returns : goal.returns
returns c = let its = own_number c.args.file.now _ _ c.write-written.ensures.0 c.written_room-room.ensures in
    let clear = accepts _ _ c.is_refused.ensures c.if-is_refused.false in
    let accepted = sym its ∙ clear in let args = c.args in
    reported args.file.now accepted _ _ _ c.append_counts-length.ensures c.text_room-text.ensures args.out.now _ _ _ c.hand_out.ensures
