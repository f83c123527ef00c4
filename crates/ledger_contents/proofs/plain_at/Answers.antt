-- The number of the content read.
use Rattle.kit.specs.Names.{ap, ◌∙◌}
use Rattle.definitions.specs.Ledger.{plain_number}
use Rattle.ledger_contents.proofs.plain_at.Goals as goal

pub returns : goal.returns
returns c = c.plain_number.ensures ∙ ap plain_number c.content_at-content.ensures
