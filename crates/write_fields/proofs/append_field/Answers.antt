-- Three bytes, one behind another.
use Rattle.write_fields.proofs.Fields.{field_appended}
use Rattle.write_fields.proofs.append_field.Goals as goal

pub returns : goal.returns
returns c = let args-out = c.args.out.now in let (field-in-tables-is, (_, (_, (_, out-room)))) = c.requires in
    let append-byte = c.append_byte-next.ensures in
    let written_type = c.written_type.ensures.value in
    let append-byte2 = c.append_byte-last.ensures in
    field_appended _ _ _ field-in-tables-is args-out _ _ _ _ _ _ _ _ out-room written_type append-byte append-byte2 c.append_byte.ensures
