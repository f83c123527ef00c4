-- Two bytes, one behind the other.
use Rattle.memory_append.proofs.Appending.{appended_then}
use Rattle.kit.specs.Names.{arith}
use Rattle.memory_append.proofs.append_two_bytes.Goals as goal

pub returns : goal.returns
returns c = appended_then _ _ _ _ _ _ _ _ c.append_byte-next.ensures (omega arith) c.append_byte.ensures
