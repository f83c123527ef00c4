use Rattle.kit.specs.Names.{◌∙◌, arith}
use Rattle.ledger_struct.specs.Whole.{zero_place}
use Rattle.ledger_struct.proofs.Padding.{padded_none}
use Rattle.ledger_struct.proofs.Flat.{fill_next, fill_done}
use Rattle.ledger_struct.proofs.filled.Goals as goal

pub loop-p-init : goal.loop-p-init
loop-p-init g c = padded_none g.row.N zero_place

pub loop-p-preserved : goal.loop-p-preserved
loop-p-preserved g c = rw c.loop-p.invariant (fill_next _ _ _ _ (omega arith) (omega arith) c.content_at.ensures)

pub returns : goal.returns
returns g c = c.loop-p.invariant ∙ fill_done _ c.loop-p.p _ (omega arith) (omega arith)
