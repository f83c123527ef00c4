-- The high digit, then the low one.
use Rattle.rehearse_lines.proofs.Hex.{byte_appended}
use Rattle.rehearse_lines.proofs.append_hex_byte.Goals as goal

pub returns : goal.returns
returns c = let args = c.args in
    let pre = c.requires in let hex-digit = c.hex_digit-high.ensures in
    let hex-digit2 = c.hex_digit-low.ensures in
    let append-byte = c.append_byte-next.ensures in
    byte_appended args.out.now _ _ args.at _ _ args.byte _ _ pre hex-digit hex-digit2 append-byte c.append_byte.ensures
