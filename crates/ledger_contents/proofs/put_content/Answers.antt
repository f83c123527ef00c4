-- Five numbers stored replace the content.
use Rattle.kit.specs.Names.{arith}
use Rattle.ledger_contents.proofs.FlatContents.{put_plain, put_cell, put_nothing}
use Rattle.ledger_contents.proofs.put_content.Goals as goal

pub returns-in-Plain : goal.returns-in-Plain
returns-in-Plain c = rw c.in-Plain.is (put_plain _ _ _ _ c.if-p-flat.true c.put_five.ensures)

pub returns-in-Cell : goal.returns-in-Cell
returns-in-Cell c = rw c.in-Cell.is
    (put_cell _ _ _ _ _ _ _ c.if-p-flat.true (omega (arith)) (omega (arith)) (omega (arith)) c.put_five-in-Cell.ensures)

pub returns-else-p-flat : goal.returns-else-p-flat
returns-else-p-flat c = put_nothing _ _ _ c.if-p-flat.false
