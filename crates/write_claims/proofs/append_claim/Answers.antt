-- Three numbers of two bytes, one behind another.
use Rattle.memory_append.proofs.Appending.{three_appended}
use Rattle.write_claims.proofs.append_claim.Goals as goal

pub returns : goal.returns
returns c = let pre = c.requires in
    let append-two-bytes = c.append_two_bytes-next.ensures in
    let append-two-bytes2 = c.append_two_bytes-last.ensures in
    three_appended _ _ _ _ _ pre _ _ _ _ _ _ append-two-bytes append-two-bytes2 c.append_two_bytes.ensures
