-- The parts are written one behind another.
use Rattle.view_bytes.proofs.Views.{view_stored}
use Rattle.view_bytes.proofs.view_bytes.Goals as goal

pub returns : goal.returns
returns c = λ file. view_stored _ file _ _ _ _ _ _ _ _ _ c.requires c.put_head.ensures
    c.put_items.ensures c.put_items-2.ensures c.put_items-3.ensures
