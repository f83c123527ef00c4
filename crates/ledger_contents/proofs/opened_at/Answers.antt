-- The number of the content read.
use Rattle.kit.specs.Names.{ap, ◌∙◌}
use Rattle.definitions.specs.Ledger.{opened_number}
use Rattle.ledger_contents.proofs.opened_at.Goals as goal

pub returns : goal.returns
returns c = c.opened_number.ensures ∙ ap opened_number c.content_at-content.ensures
