use Rattle.kit.specs.Names.{arith, rules}
use Rattle.honest_parameters.proofs.Public.{picking_none, picking_room, picking_more, picking_done}
use Rattle.honest_parameters.proofs.put_public.Goals as goal

pub loop-k-init : goal.loop-k-init
loop-k-init c = let args = c.args in picking_none args.file.now args.function_at args.parameters.now args.flat.now c.requires

pub put_if_public-r-requires : goal.put_if_public-r-requires
put_if_public-r-requires c = let args = c.args in let pre = c.requires in
    (pre.place, (omega arith, picking_room args.file.now args.function_at args.parameters.now args.flat.now pre _ c.loop-k.k c.loop-k.r c.loop-k.invariant (omega arith)))

pub loop-k-preserved : goal.loop-k-preserved
loop-k-preserved c = let args = c.args in
    picking_more args.file.now args.function_at args.parameters.now args.flat.now c.requires _ _ c.loop-k.k c.loop-k.r _ c.loop-k.invariant (omega arith)
    (search rules) c.put_if_public-r.ensures

pub returns : goal.returns
returns c = let args = c.args in
    picking_done args.file.now args.function_at args.parameters.now args.flat.now c.requires _ c.loop-k.k c.loop-k.r c.loop-k.invariant (omega arith)
