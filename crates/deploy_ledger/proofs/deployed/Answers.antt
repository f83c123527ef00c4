-- The parts make the deployed ledger.
use Rattle.kit.specs.Names.{ap, sym, ◌∙◌, arith, length}
use Rattle.memory_buffer.proofs.Storing.{front_stored}
use Rattle.deploy_ledger.proofs.Parts.{deployable, deployed_whole}
use Rattle.deploy_ledger.proofs.deployed.Goals as goal

pub slice_bounds-put_places-end : goal.slice_bounds-put_places-end
slice_bounds-put_places-end c = let n = c.put_numbers-count.ensures in n.many ∙ sym (ap length (front_stored _ _ _ _ n.stand n.many))

pub put_places-places-requires : goal.put_places-places-requires
put_places-places-requires c = let n = c.put_numbers-count.ensures in
    let front = front_stored _ _ _ _ n.stand n.many in let long = ap length front in
    deployable c.args.file.now c.args.addresses.now _ c.requires.0 front (omega (arith, n.few, n.many))
    (λ i. omega (arith, c.type_inv.addresses i))

pub returns : goal.returns
returns c = let n = c.put_numbers-count.ensures in
    let front = front_stored _ _ _ _ n.stand n.many in
    deployed_whole c.args.file.now c.args.addresses.now _ _ _ _ c.copied-bytes.ensures front c.put_places-places.ensures.whole
    (n.many ∙ sym (ap length front))
