-- The number, the values and the line feed.
use Rattle.kit.specs.Names.{arith}
use Rattle.report_text.proofs.Digits.{digits_length}
use Rattle.disclose_lines.proofs.Written.{text_room, end_room, line_appended}
use Rattle.disclose_lines.proofs.append_line.Goals as goal

pub append_digits-digits-requires : goal.append_digits-digits-requires
append_digits-digits-requires c = omega (arith, digits_length 20 c.args.number, c.requires)

pub append_values-text-requires : goal.append_values-text-requires
append_values-text-requires c = let args = c.args in
    let room = text_room args.out.now args.values.now args.number c.requires _ _ c.append_digits-digits.ensures in
    omega arith

pub append_byte-requires : goal.append_byte-requires
append_byte-requires c = let args = c.args in
    end_room args.out.now args.values.now args.number c.requires _ _ c.append_digits-digits.ensures _ _ c.append_values-text.ensures

pub returns : goal.returns
returns c = let args = c.args in
    line_appended args.out.now args.values.now args.number c.requires _ _ c.append_digits-digits.ensures _ _ c.append_values-text.ensures _ _ c.append_byte.ensures
