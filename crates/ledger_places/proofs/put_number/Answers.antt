use Rattle.kit.specs.Names.{sym, set_out}
use Rattle.ledger_places.proofs.put_number.Goals as goal

pub returns-else-p-numbers : goal.returns-else-p-numbers
returns-else-p-numbers c = sym (set_out _ _ _ c.if-p-numbers.false)
