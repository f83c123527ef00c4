-- The room is as long as it is written: the law on repeated bytes says so without counting them one by one.
use Rattle.kit.specs.Names.{ℕ, sym, length-replicate}
use Rattle.program_input.proofs.script_room.Goals as goal

pub returns : goal.returns
returns c = sym (length-replicate {A = ℕ} 326661 0)
