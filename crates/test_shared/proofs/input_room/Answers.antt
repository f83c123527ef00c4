-- The room's length, by the law of `replicate` and not by counting.
use Rattle.kit.specs.Names.{sym, ℕ, length-replicate}
use Rattle.test_shared.proofs.input_room.Goals as goal

pub returns : goal.returns
returns c = sym (length-replicate {0} {A = ℕ} 700000 0)
