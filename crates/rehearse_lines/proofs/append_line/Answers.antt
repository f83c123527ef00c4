-- The number, the space, the view and the line feed.
use Rattle.kit.specs.Names.{arith}
use Rattle.rehearse_lines.proofs.Written.{space_room, text_room, end_room, line_appended}
use Rattle.rehearse_lines.proofs.append_line.Goals as goal

pub append_byte-space-requires : goal.append_byte-space-requires
append_byte-space-requires c = let args = c.args in
    let pre = c.requires in
    let room = space_room args.out.now args.view.now args.number (omega arith) pre _ _ c.append_decimal-digits.ensures in omega arith

pub append_hex-text-requires : goal.append_hex-text-requires
append_hex-text-requires c = let args = c.args in
    let pre = c.requires in let append-decimal = c.append_decimal-digits.ensures in
    let room = text_room args.out.now args.view.now args.number (omega arith) pre _ _ append-decimal _ _ c.append_byte-space.ensures in omega arith

pub append_byte-requires : goal.append_byte-requires
append_byte-requires c = let args = c.args in
    let pre = c.requires in
    let append-decimal = c.append_decimal-digits.ensures in
    let append-byte = c.append_byte-space.ensures in
    end_room args.out.now args.view.now args.number (omega arith) pre _ _ append-decimal _ _ append-byte _ _ c.append_hex-text.ensures

pub returns : goal.returns
returns c = let args = c.args in
    let pre = c.requires in
    let append-decimal = c.append_decimal-digits.ensures in
    let append-byte = c.append_byte-space.ensures in
    let append-hex = c.append_hex-text.ensures in
    line_appended args.out.now args.view.now args.number (omega arith) pre _ _ append-decimal _ _ append-byte _ _ append-hex _ _ c.append_byte.ensures
