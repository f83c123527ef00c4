-- The count, then the parameters.
use Rattle.kit.specs.Names.{arith}
use Rattle.write_headings.proofs.Parts.{parameters_room, parameters_appended}
use Rattle.write_headings.proofs.append_parameter_part.Goals as goal

pub append_parameters-requires : goal.append_parameters-requires
append_parameters-requires c = let args = c.args in let (_, out-room) = c.requires in
    let byte_at = c.byte_at-count.ensures.value in
    (omega arith, parameters_room args.file.now args.function_at args.out.now args.at _ byte_at out-room _ _ c.append_byte-next.ensures)

pub returns : goal.returns
returns c = let args = c.args in
    let (_, out-room) = c.requires in let byte_at = c.byte_at-count.ensures.value in
    let append-byte = c.append_byte-next.ensures in
    parameters_appended args.file.now args.function_at args.out.now args.at _ byte_at out-room _ _ _ _ append-byte c.append_parameters.ensures
