-- The room's length, by the law of `replicate` and not by counting.
use Rattle.kit.specs.Names.{sym, ℕ, length-replicate}
use Rattle.test_ledgers.proofs.disclosures.value_room.Goals as goal

pub returns : goal.returns
returns c = sym (length-replicate {0} {A = ℕ} 512 0)
