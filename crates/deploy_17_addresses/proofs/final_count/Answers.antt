use Rattle.kit.specs.Names.{arith}
use Rattle.file_accepted.specs.Context.{fields_in}
use Rattle.ledger_places.proofs.Positions.{fields_count}
use Rattle.deploy_17_addresses.proofs.Addresses.{finals_next, finals_done}
use Rattle.deploy_17_addresses.proofs.final_count.Goals as goal

pub loop-f-preserved : goal.loop-f-preserved
loop-f-preserved c = let loop = c.loop-f in let file = c.args.file.now in
    let counted = fields_count file in let same = c.byte_at-count.ensures.value in
    (omega arith, finals_next (fields_in file) loop.f loop.finals _ _ (omega arith) c.final_bit-finals.ensures.value loop.invariant.1)

pub returns : goal.returns
returns c = let file = c.args.file.now in let counted = fields_count file in let same = c.byte_at-count.ensures.value in
    finals_done (fields_in file) c.loop-f.f c.loop-f.finals _ (omega arith) c.loop-f.invariant.1
