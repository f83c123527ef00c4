-- A space, then the digits.
use Rattle.kit.specs.Names.{arith}
use Rattle.memory_append.proofs.Appending.{appended_then}
use Rattle.report_text.proofs.append_count.Goals as goal

pub returns : goal.returns
returns c = let args = c.args in
    let append-byte = c.append_byte-next.ensures in
    appended_then args.out.now args.at _ _ _ _ _ _ append-byte (omega arith) c.append_digits.ensures
