-- The two counts, one behind the other.
use Rattle.kit.specs.Names.{arith}
use Rattle.memory_append.proofs.Appending.{appended_then, appended_length}
use Rattle.test_shared.proofs.Lines.{count_short}
use Rattle.test_shared.proofs.tally_line.Goals as goal

pub append_count-requires : goal.append_count-requires
append_count-requires c = let short = count_short c.args.count c.args.what.now in
    let same = appended_length _ _ _ _ _ c.append_count-next.ensures (omega (arith, c.requires)) in
    omega (arith, c.requires, c.append_count-next.ensures.place)

pub returns : goal.returns
returns c = let short = count_short c.args.count c.args.what.now in
    appended_then _ _ _ _ _ _ _ _ c.append_count-next.ensures (omega (arith, c.requires)) c.append_count.ensures
