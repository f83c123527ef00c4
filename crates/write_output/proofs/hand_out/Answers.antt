-- Three runs stand one behind another where they fit.
use Rattle.kit.specs.Names.{arith}
use Rattle.definitions.specs.Basics.{two_bytes}
use Rattle.memory_append.proofs.Appending.{three_appended}
use Rattle.write_output.proofs.Answers.{too_short, stands, no_counts_out, counts_out, three_long, room_left, total_long}
use Rattle.write_output.proofs.hand_out.Goals as goal

pub returns-then-out-total : goal.returns-then-out-total
returns-then-out-total c = let args = c.args in
    let short = three_long args.headings.now args.nodes.now args.count _ (omega (arith, c.if-out-total.true)) in
    record { handed_out = too_short _ _ short; counts_out = no_counts_out _ _ _ _ short c.no_counts-none.ensures }

pub returns : goal.returns
returns c = let args = c.args in
    let if1-left = c.if-out-total.false in
    let append = c.append-middle.ensures in
    let append-two-bytes = c.append_two_bytes-next.ensures in
    let fits = room_left args.headings.now args.nodes.now args.count _ (omega (arith, if1-left)) in record { handed_out = stands _ _ _ _ _ fits (total_long args.headings.now args.nodes.now args.count) (three_appended _ 0 args.headings.now (two_bytes args.count) args.nodes.now fits _ _ _ _ _ _ append append-two-bytes c.append.ensures); counts_out = counts_out _ _ _ fits }
