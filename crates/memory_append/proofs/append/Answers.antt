use Rattle.kit.specs.Names.{refl, arith}
use Rattle.memory_buffer.proofs.Storing.{stored_part}
use Rattle.memory_append.proofs.append.Goals as goal

pub returns : goal.returns
returns c = record { contents = stored_part _ _ _ _ _ c.copy_from_slice.ensures.after (omega arith); place = refl }
