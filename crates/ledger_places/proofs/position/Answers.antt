use Rattle.kit.specs.Names.{arith}
use Rattle.file_accepted.specs.Context.{fields_in}
use Rattle.ledger_places.proofs.Positions.{position_start, position_next, position_done, fields_count}
use Rattle.ledger_places.proofs.position.Goals as goal

pub loop-i-init : goal.loop-i-init
loop-i-init c = (position_start _ _ _, omega arith)

pub loop-i-preserved : goal.loop-i-preserved
loop-i-preserved c =
    let length_is = fields_count c.args.file.now in
    (position_next (fields_in c.args.file.now) c.args.f c.loop-i.i _ _ c.loop-i.invariant.0 _ (omega arith) (omega arith) c.place_count-at.ensures.value, omega arith)

pub returns : goal.returns
returns c =
    let length_is = fields_count c.args.file.now in
    position_done (fields_in c.args.file.now) c.args.f c.loop-i.i _ _ c.loop-i.invariant.0 (omega arith)
