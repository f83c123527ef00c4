-- By cases of the content.
use Rattle.view_item.proofs.Bytes.{shows_plain}
use Rattle.view_content.proofs.put_content.Goals as goal

pub returns-in-Plain : goal.returns-in-Plain
returns-in-Plain c = rw (c.in-Plain.is, shows_plain) c.put_item.ensures

pub returns-in-Cell : goal.returns-in-Cell
returns-in-Cell c = rw c.in-Cell.is c.put_cell.ensures
