-- The count, the reads of private parameters, and the variables of the log.
use Rattle.std.specs.Prelude.{◌+◌}
use Rattle.definitions.specs.Basics.{two_bytes}
use Rattle.write_variables.specs.PerEntry.{per_entry}
use Rattle.write_variables.specs.Variables.{variable_of}
use Rattle.write_parameters.specs.Parameters.{opening_variables}
use Rattle.memory_append.proofs.Appending.{second_room, third_room, three_appended}
use Rattle.write_headings.proofs.append_variable_part.Goals as goal

pub append_opening_variables-opened-requires : goal.append_opening_variables-opened-requires
append_opening_variables-opened-requires c = let args = c.args in let (_, out-room) = c.requires in
    second_room args.out.now args.at (two_bytes (args.private + args.made)) (opening_variables args.private) (per_entry variable_of args.log.now) out-room _ _ c.append_two_bytes-count.ensures

pub append_variables-requires : goal.append_variables-requires
append_variables-requires c = let args = c.args in
    let (_, out-room) = c.requires in
    let append-two-bytes = c.append_two_bytes-count.ensures in
    third_room args.out.now args.at (two_bytes (args.private + args.made)) (opening_variables args.private) (per_entry variable_of args.log.now) out-room _ _ _ _ append-two-bytes c.append_opening_variables-opened.ensures

pub returns : goal.returns
returns c = let args = c.args in let (_, out-room) = c.requires in
    let append-two-bytes = c.append_two_bytes-count.ensures in
    let append-opening-variables = c.append_opening_variables-opened.ensures in
    three_appended args.out.now args.at (two_bytes (args.private + args.made)) (opening_variables args.private) (per_entry variable_of args.log.now) out-room _ _ _ _ _ _ append-two-bytes append-opening-variables c.append_variables.ensures
