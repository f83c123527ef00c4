-- The fields, the count of functions, and the functions stand one behind another.
use Rattle.kit.specs.Names.{arith}
use Rattle.memory_append.proofs.Appending.{appended_length}
use Rattle.write_fields.proofs.Fields.{section_length}
use Rattle.write_fields.proofs.Accepted.{accepted_fields}
use Rattle.write_parts.proofs.Parts.{first_start, parts_put}
use Rattle.write_parts.proofs.write_parts.Goals as goal

pub append_field_section-fields-requires : goal.append_field_section-fields-requires
append_field_section-fields-requires c = let args-file = c.args.file.now in let pre = c.requires.1 in
    let l = accepted_fields args-file pre.accepted in (l, omega (arith, l.few, pre.heading_space))

pub append_byte-from-requires : goal.append_byte-from-requires
append_byte-from-requires c = let args-file = c.args.file.now in
    let pre = c.requires.1 in let append-field-section = c.append_field_section-fields.ensures in
    let l = accepted_fields args-file pre.accepted in let p = append-field-section.place in let n = section_length args-file in let long = appended_length _ _ _ _ _ append-field-section (omega (arith, l.few, pre.heading_space)) in omega (arith, l.few, pre.heading_space)

pub write_functions-requires : goal.write_functions-requires
write_functions-requires c = let args-file = c.args.file.now in let pre = c.requires.1 in
    let read-layout = c.read_layout-layout.ensures in
    let append-field-section = c.append_field_section-fields.ensures in
    let append-byte = c.append_byte-from.ensures in
    let l = accepted_fields args-file pre.accepted in let layout = read-layout in let a = append-field-section in let b = append-byte in
    let n = section_length args-file in let p = a.place in let q = b.place in
    let long = appended_length _ _ _ _ _ a (omega (arith, l.few, pre.heading_space)) in
    let later = appended_length _ _ _ _ _ b (omega (arith, l.few, pre.heading_space)) in (
      record {
        ready = record { accepted = pre.accepted; heading_space = omega (arith, pre.heading_space); node_space = pre.node_space };
        begins = first_start args-file _ layout.functions_start;
        counted = layout.functions;
        held = c.requires.0;
        behind_fields = omega arith;
      },
      c.requires.2,
    )

pub shape_of-log : goal.shape_of-log
shape_of-log c = c.write_functions.auto.log

pub shape_of-headings : goal.shape_of-headings
shape_of-headings c = omega arith

pub returns : goal.returns
returns c = let args-file = c.args.file.now in let pre = c.requires.1 in
    let read-layout-functions = c.read_layout-layout.ensures.functions in
    let append-field-section = c.append_field_section-fields.ensures in
    let append-byte = c.append_byte-from.ensures in
    let write-functions = c.write_functions.ensures in
    parts_put args-file _ _ _ _ _ _ _ _ _ _ _ _ pre.heading_space (accepted_fields args-file pre.accepted).few read-layout-functions append-field-section append-byte write-functions
