use Rattle.kit.specs.Names.{sym}
use Rattle.memory_buffer.proofs.Storing.{stored_one}
use Rattle.honest_supplies.proofs.put_slot.Goals as goal

pub returns : goal.returns
returns c = sym (stored_one _ _ _ c.requires)
