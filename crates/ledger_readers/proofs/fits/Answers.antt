-- The two parts of a form.
use Rattle.kit.specs.Names.{ap, ◌∙◌}
use Rattle.definitions.specs.ContractFile.{data_type_of, is_of_type}
use Rattle.ledger_contents.specs.Contents.{content_of_code}
use Rattle.ledger_readers.specs.Readers.{form_of}
use Rattle.ledger_readers.proofs.ReadersByCode.{fits_both, fits_not}
use Rattle.ledger_readers.proofs.fits.Goals as goal

pub returns-then-is_content : goal.returns-then-is_content
returns-then-is_content c = let a = c.args in
    fits_both (form_of a.code a.reader) (content_of_code a.content) _ _ c.is_content.ensures c.if-is_content.true
    (c.is_of_type.ensures ∙ ap (is_of_type (data_type_of c.args.code)) c.opened_number-value.ensures)

pub returns-else-is_content : goal.returns-else-is_content
returns-else-is_content c = let a = c.args in
    fits_not (form_of a.code a.reader) (content_of_code a.content) _ c.is_content.ensures c.if-is_content.false
