-- A content that is there is plain 0 or tested.
use Rattle.definitions.specs.Ledger.{content_at, fits, is_plain_zero}
use Rattle.ledger_contents.specs.Contents.{contents_of}
use Rattle.kit.specs.Names.{ap, ◌∙◌, arith}
use Rattle.ledger_readers.specs.Readers.{form_of}
use Rattle.ledger_18_forms.specs.Forms.{fits_or_zero}
use Rattle.ledger_18_forms.proofs.FormSteps.{found, absent, zero_fits, other_fits}
use Rattle.ledger_18_forms.proofs.variable_fits_at.Goals as goal

pub returns-then-is_plain_zero : goal.returns-then-is_plain_zero
returns-then-is_plain_zero c = let args = c.args in
    let a = args in found fits_or_zero a.flat.now a.p (form_of a.code a.reader) _ (omega arith)
    (zero_fits (form_of a.code a.reader) (content_at (contents_of a.flat.now) a.p) _ (c.is_plain_zero.ensures ∙ ap is_plain_zero c.content_at-content.ensures) c.if-is_plain_zero.true)

pub returns-else-is_plain_zero : goal.returns-else-is_plain_zero
returns-else-is_plain_zero c = let args = c.args in let content-at = c.content_at-content.ensures in
    let a = args in found fits_or_zero a.flat.now a.p (form_of a.code a.reader) _ (omega arith)
    (other_fits (form_of a.code a.reader) (content_at (contents_of a.flat.now) a.p) _ _ (c.is_plain_zero.ensures ∙ ap is_plain_zero content-at) c.if-is_plain_zero.false
    (c.fits.ensures ∙ ap (fits (form_of a.code a.reader)) content-at))

pub returns-else-p-flat : goal.returns-else-p-flat
returns-else-p-flat c = let a = c.args in
    absent fits_or_zero a.flat.now a.p (form_of a.code a.reader) (omega arith)
