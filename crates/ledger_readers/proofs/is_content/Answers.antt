-- By cases of the reader and the content.
use Rattle.ledger_readers.proofs.is_content.Goals as goal

pub returns-in-Cell-content : goal.returns-in-Cell-content
returns-in-Cell-content c = rw (c.in-Only.is, c.in-Cell-content.is)
