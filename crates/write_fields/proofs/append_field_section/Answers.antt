-- The count, and the fields behind it.
use Rattle.kit.specs.Names.{sym, subst, arith}
use Rattle.memory_append.proofs.Appending.{appended_length}
use Rattle.write_fields.specs.Fields.{FieldsListed}
use Rattle.write_fields.proofs.Fields.{section_appended}
use Rattle.write_fields.proofs.append_field_section.Goals as goal

pub append_fields-requires : goal.append_fields-requires
append_fields-requires c = let args-file = c.args.file.now in
    let (fields_listed, _) = c.requires in let byte_at = c.byte_at-count.ensures.value in
    (subst (FieldsListed args-file) (sym byte_at) fields_listed, let e = byte_at in let l = appended_length _ _ _ _ _ c.append_byte-next.ensures (omega arith) in omega arith)

pub returns : goal.returns
returns c = let args = c.args in
    let (_, out-room) = c.requires in let byte_at = c.byte_at-count.ensures.value in
    let append-byte = c.append_byte-next.ensures in
    section_appended args.file.now args.out.now _ _ args.at _ _ _ byte_at out-room append-byte c.append_fields.ensures
