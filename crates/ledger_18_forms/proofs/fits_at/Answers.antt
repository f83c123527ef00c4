-- A content that is there is tested.
use Rattle.kit.specs.Names.{ap, ◌∙◌, arith}
use Rattle.definitions.specs.Ledger.{fits}
use Rattle.ledger_readers.specs.Readers.{form_of}
use Rattle.ledger_18_forms.proofs.FormSteps.{found, absent}
use Rattle.ledger_18_forms.proofs.fits_at.Goals as goal

pub returns-then-p-flat : goal.returns-then-p-flat
returns-then-p-flat c = let a = c.args in
    found fits a.flat.now a.p (form_of a.code a.reader) _ (omega arith) (c.fits.ensures ∙ ap (fits (form_of a.code a.reader)) c.content_at-content.ensures)

pub returns-else-p-flat : goal.returns-else-p-flat
returns-else-p-flat c = let a = c.args in
    absent fits a.flat.now a.p (form_of a.code a.reader) (omega arith)
