-- The party's own cell is open, another is not.
use Rattle.view_item.proofs.Bytes.{shows_own, shows_opaque}
use Rattle.view_content.proofs.put_cell.Goals as goal

pub returns-then-cell-party : goal.returns-then-cell-party
returns-then-cell-party c = let args = c.args in
    let k = args in
    rw (shows_own k.party k.cell.owner k.cell.call k.cell.index k.cell.value c.if-cell-party.true) c.put_item.ensures

pub returns-else-cell-party : goal.returns-else-cell-party
returns-else-cell-party c = let args = c.args in
    let k = args in
    rw (shows_opaque k.party k.cell.owner k.cell.call k.cell.index k.cell.value c.if-cell-party.false) c.put_item-else-cell-party.ensures
