-- Five numbers read make the content.
use Rattle.kit.specs.Names.{sym}
use Rattle.ledger_contents.proofs.FlatContents.{content_plain, content_cell, content_outside}
use Rattle.ledger_contents.proofs.content_at.Goals as goal

pub returns-then-flat-at-eq0 : goal.returns-then-flat-at-eq0
returns-then-flat-at-eq0 c = content_plain _ _ c.if-p-flat.true c.if-flat-at-eq0.true

pub returns-else-flat-at-eq0 : goal.returns-else-flat-at-eq0
returns-else-flat-at-eq0 c = content_cell _ _ c.if-p-flat.true c.if-flat-at-eq0.false

pub returns-else-p-flat : goal.returns-else-p-flat
returns-else-p-flat c = sym (content_outside _ _ c.if-p-flat.false)
