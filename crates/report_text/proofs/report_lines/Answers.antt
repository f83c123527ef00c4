-- The heading, then the lines in sorted order, then the total of them.
use Rattle.kit.specs.Names.{refl, arith}
use Rattle.report_text.proofs.Lines.{lines_room, total_room, report_appended}
use Rattle.report_text.proofs.report_lines.Goals as goal

pub append_tallies-lines-requires : goal.append_tallies-lines-requires
append_tallies-lines-requires c = let args = c.args in let (_, out-room) = c.requires in
    (omega arith, lines_room args.counts.now _ args.out.now out-room c.sort_functions.ensures _ _ refl c.total_of-total.ensures _ _ c.append-heading.ensures)

pub append_word-requires : goal.append_word-requires
append_word-requires c = let args = c.args in let (_, out-room) = c.requires in
    total_room args.counts.now _ args.out.now out-room c.sort_functions.ensures _ _ refl c.total_of-total.ensures _ _ _ _ c.append-heading.ensures c.append_tallies-lines.ensures

pub returns : goal.returns
returns c = let args = c.args in let (_, out-room) = c.requires in
    report_appended args.counts.now _ args.out.now out-room c.sort_functions.ensures _ _ refl c.total_of-total.ensures _ _ _ _ _ _ c.append-heading.ensures c.append_tallies-lines.ensures c.append_word.ensures
