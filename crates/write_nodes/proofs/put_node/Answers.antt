use Rattle.kit.specs.Names.{arith}
use Rattle.memory_append.proofs.Appending.{appended_then}
use Rattle.write_nodes.proofs.put_node.Goals as goal

pub returns : goal.returns
returns c = let append-byte = c.append_byte-a.ensures in
    let append-byte2 = c.append_byte-b.ensures in
    let append-two-bytes = c.append_two_bytes-c.ensures in
    let append-two-bytes2 = c.append_two_bytes-d.ensures in
    let two = appended_then _ _ _ _ _ _ _ _ append-byte (omega arith) append-byte2 in
    let four = appended_then _ _ _ _ _ _ _ _ two (omega arith) append-two-bytes in
    let six = appended_then _ _ _ _ _ _ _ _ four (omega arith) append-two-bytes2 in
    let eight = appended_then _ _ _ _ _ _ _ _ six (omega arith) c.append_two_bytes.ensures in eight.contents
