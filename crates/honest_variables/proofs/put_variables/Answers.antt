use Rattle.std.specs.Prelude.{◌+◌, ◌*◌, ◌-◌}
use Rattle.kit.specs.Names.{arith, drop}
use Rattle.write_variables.specs.PerEntry.{per_entry}
use Rattle.honest_variables.specs.Variables.{code_of, codes_of}
use Rattle.honest_variables.proofs.Contents.{entry_ready, opening_start, opening_next, opening_less, opening_done, entering_next, entering_less, entering_done}
use Rattle.honest_variables.proofs.put_variables.Goals as goal

pub loop-init : goal.loop-init
loop-init c = let args = c.args in
    opening_start args.log.now args.private args.slots.now args.addresses.now args.flat.now args.call c.requires

pub put_entry-n-requires : goal.put_entry-n-requires
put_entry-n-requires c = let args = c.args in let pre = c.requires in
    entry_ready args.call args.slots.now args.addresses.now 2 1 _ _ (codes_of (args.private - c.loop.counter - 1) args.log.now) _ c.loop.n pre.small pre.few
    (opening_next args.log.now args.private args.slots.now args.addresses.now args.flat.now args.call (args.private - c.loop.counter) _ c.loop.n (omega arith) c.loop.invariant)

pub loop-preserved : goal.loop-preserved
loop-preserved c = let args = c.args in
    opening_less args.log.now args.private args.slots.now args.addresses.now args.flat.now args.call args.private c.loop.counter _ _ (c.put_entry-n.ensures.passes _ _
    (opening_next args.log.now args.private args.slots.now args.addresses.now args.flat.now args.call (args.private - c.loop.counter) _ c.loop.n (omega arith) c.loop.invariant))

pub loop-e-init : goal.loop-e-init
loop-e-init c = let args = c.args in
    opening_done args.log.now args.private args.slots.now args.addresses.now args.flat.now args.call (args.private - c.loop.counter) _ c.loop.n (omega arith) c.loop.invariant

pub put_entry-n-requires-in-loop-e : goal.put_entry-n-requires-in-loop-e
put_entry-n-requires-in-loop-e c = let args = c.args in let pre = c.requires in
    entry_ready args.call args.slots.now args.addresses.now _ _ _ _ (per_entry code_of (drop (5 * c.loop-e.e + 5) args.log.now)) _ c.loop-e.n pre.small pre.few
    (entering_next args.log.now args.private args.slots.now args.addresses.now args.flat.now args.call (5 * c.loop-e.e) _ c.loop-e.n (omega arith) c.loop-e.invariant)

pub loop-e-preserved : goal.loop-e-preserved
loop-e-preserved c = let args = c.args in
    entering_less args.log.now args.private args.slots.now args.addresses.now args.flat.now args.call c.loop-e.e _ _ (c.put_entry-n-in-loop-e.ensures.passes _ _
    (entering_next args.log.now args.private args.slots.now args.addresses.now args.flat.now args.call (5 * c.loop-e.e) _ c.loop-e.n (omega arith) c.loop-e.invariant))

pub returns : goal.returns
returns c = let args = c.args in
    entering_done args.log.now args.private args.slots.now args.addresses.now args.flat.now args.call (5 * c.loop-e.e) _ c.loop-e.n (omega arith) c.loop-e.invariant
