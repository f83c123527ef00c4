use Rattle.kit.specs.Names.{rules}
use Rattle.ledger_struct.specs.Ledgers.{ledger_of}
use Rattle.ledger_struct.proofs.flat_places.Goals as goal

pub returns : goal.returns
unfolding ledger_of
returns c = search rules
