-- The ledger of nothing counts nothing.
use Rattle.kit.specs.Names.{refl}
use Rattle.ledger_struct.proofs.Padding.{padded_none}
use Rattle.ledger_struct.proofs.Flat.{places_none}
use Rattle.deploy.proofs.Answers.{nothing_whole}
use Rattle.deploy.proofs.refused.Goals as goal

pub returns : goal.returns
returns c = record { given = refl; whole = nothing_whole _ _ _ _ (padded_none 4596 0) (places_none 8) (places_none 1024) (places_none 1024) }
