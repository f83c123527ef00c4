-- The word, the number and the line's end.
use Rattle.std.specs.Prelude.{◌∷◌}
use Rattle.kit.specs.Names.{[]}
use Rattle.definitions.specs.Report.{decimal}
use Rattle.memory_append.proofs.Appending.{first_room, second_room, third_room, three_appended}
use Rattle.report_text.proofs.append_word.Goals as goal

pub append-next-requires : goal.append-next-requires
append-next-requires c = let args = c.args in
    first_room args.out.now args.at args.word.now (decimal args.number) (10 ∷ []) c.requires

pub append_digits-line-requires : goal.append_digits-line-requires
append_digits-line-requires c = let args = c.args in
    second_room args.out.now args.at args.word.now (decimal args.number) (10 ∷ []) c.requires _ _ c.append-next.ensures

pub append_byte-requires : goal.append_byte-requires
append_byte-requires c = let args = c.args in
    let append = c.append-next.ensures in
    third_room args.out.now args.at args.word.now (decimal args.number) (10 ∷ []) c.requires _ _ _ _ append c.append_digits-line.ensures

pub returns : goal.returns
returns c = let args = c.args in
    let append = c.append-next.ensures in
    let append-digits = c.append_digits-line.ensures in
    three_appended args.out.now args.at args.word.now (decimal args.number) (10 ∷ []) c.requires _ _ _ _ _ _ append append-digits c.append_byte.ensures
