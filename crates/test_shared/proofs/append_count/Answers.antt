-- The digits, and then the word.
use Rattle.kit.specs.Names.{arith}
use Rattle.memory_append.proofs.Appending.{appended_then, appended_length}
use Rattle.report_text.proofs.Digits.{digits_length}
use Rattle.test_shared.proofs.append_count.Goals as goal

pub append_digits-next-requires : goal.append_digits-next-requires
append_digits-next-requires c = let short = digits_length 20 c.args.count in omega (arith, c.requires)

pub append-requires : goal.append-requires
append-requires c = let digits = c.append_digits-next.ensures in let short = digits_length 20 c.args.count in
    let same = appended_length _ _ _ _ _ digits (omega (arith, c.requires)) in omega (arith, c.requires, digits.place)

pub returns : goal.returns
returns c = let short = digits_length 20 c.args.count in
    appended_then _ _ _ _ _ _ _ _ c.append_digits-next.ensures (omega (arith, c.requires))
    c.append.ensures
