-- Guard, variable and root.
use Rattle.definitions.specs.Basics.{two_bytes}
use Rattle.memory_append.proofs.Appending.{three_appended}
use Rattle.write_parameters.proofs.append_opening_claim.Goals as goal

pub returns : goal.returns
returns c = let args = c.args in let pre = c.requires in
    let append-two-bytes = c.append_two_bytes-guard.ensures in
    let append-two-bytes2 = c.append_two_bytes-number.ensures in
    three_appended args.out.now args.at (two_bytes 0) (two_bytes args.variable) (two_bytes 65535) pre _ _ _ _ _ _ append-two-bytes append-two-bytes2 c.append_two_bytes.ensures
