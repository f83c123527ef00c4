-- The number, the count and the line's end.
use Rattle.std.specs.Prelude.{◌∷◌}
use Rattle.kit.specs.Names.{[]}
use Rattle.definitions.specs.Report.{decimal}
use Rattle.memory_append.proofs.Appending.{first_room, second_room, third_room, three_appended}
use Rattle.report_text.specs.Lines.{spaced_count}
use Rattle.report_text.proofs.append_tally.Goals as goal

pub append_digits-number-requires : goal.append_digits-number-requires
append_digits-number-requires c = let args = c.args in
    first_room args.out.now args.at (decimal args.function) (spaced_count args.count) (10 ∷ []) c.requires

pub append_count-line-requires : goal.append_count-line-requires
append_count-line-requires c = let args = c.args in let pre = c.requires in
    second_room args.out.now args.at (decimal args.function) (spaced_count args.count) (10 ∷ []) pre _ _ c.append_digits-number.ensures

pub append_byte-requires : goal.append_byte-requires
append_byte-requires c = let args = c.args in
    let pre = c.requires in let append-digits = c.append_digits-number.ensures in
    third_room args.out.now args.at (decimal args.function) (spaced_count args.count) (10 ∷ []) pre _ _ _ _ append-digits c.append_count-line.ensures

pub returns : goal.returns
returns c = let args = c.args in let pre = c.requires in
    let append-digits = c.append_digits-number.ensures in
    let append-count = c.append_count-line.ensures in
    three_appended args.out.now args.at (decimal args.function) (spaced_count args.count) (10 ∷ []) pre _ _ _ _ _ _ append-digits append-count c.append_byte.ensures
