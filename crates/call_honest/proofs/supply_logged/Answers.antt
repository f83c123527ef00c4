-- The original's numbers make the contents of the variables.
use Rattle.std.specs.Prelude.{◌*◌}
use Rattle.kit.specs.Names.{ap, sym, ◌∙◌, ℕ, arith, length-take-le}
use Rattle.ledger_struct.proofs.Flat.{flat_put}
use Rattle.call_honest.proofs.HonestParts.{slots_room, slots_few, worked_out_law, variables_ready, supplied_honest}
use Rattle.call_honest.proofs.supply_logged.Goals as goal

pub honest_slots-made-requires : goal.honest_slots-made-requires
honest_slots-made-requires c = let told = c.requires.0.told in
    slots_room _ _ _ _ _ _ told.known.called _ (omega arith)

pub overflow_mul-end : goal.overflow_mul-end
overflow_mul-end c = omega (arith, slots_few _ _ _ _ _ _ c.requires.0.told.known.called _ _ _ _ c.honest_slots-made.ensures)

pub slice_bounds-slots-end : goal.slice_bounds-slots-end
slice_bounds-slots-end c = omega (arith, slots_few _ _ _ _ _ _ c.requires.0.told.known.called _ _ _ _ c.honest_slots-made.ensures)

pub slice_bounds-put_variables-end : goal.slice_bounds-put_variables-end
slice_bounds-put_variables-end c = sym (length-take-le _ _ (omega (arith, slots_few _ _ _ _ _ _ c.requires.0.told.known.called _ _ _ _ c.honest_slots-made.ensures)))

pub slice_bounds-put_variables-end-2 : goal.slice_bounds-put_variables-end-2
slice_bounds-put_variables-end-2 c = omega (arith, slots_few _ _ _ _ _ _ c.requires.0.told.known.called _ _ _ _ c.honest_slots-made.ensures, c.requires.1)

pub slice_bounds-put_variables-end-3 : goal.slice_bounds-put_variables-end-3
slice_bounds-put_variables-end-3 c = sym (length-take-le _ _ (omega (arith, slots_few _ _ _ _ _ _ c.requires.0.told.known.called _ _ _ _ c.honest_slots-made.ensures, c.requires.1)))

pub put_variables-requires : goal.put_variables-requires
put_variables-requires c = let few = slots_few _ _ _ _ _ _ c.requires.0.told.known.called _ _ _ _ c.honest_slots-made.ensures in
    variables_ready _ _ _ _ _ _ _ _ _ _ (worked_out_law _ _ _ _ _ _ _ _ _ _ c.requires.0.told _ _ _ c.honest_slots-made.ensures) _
    (length-take-le (5 * c.honest_slots-made.result) c.args.supplied.now (omega (arith, few, c.requires.1))
    ∙ sym (ap (λ (n : ℕ). 5 * n) (length-take-le c.honest_slots-made.result c.honest_slots-made.new.slots (omega (arith, few)))))

pub returns : goal.returns
returns c = λ l told follows. flat_put c.honest_slots-made.result c.honest_slots-made.result 1024 c.args.supplied.now (omega (arith, slots_few _ _ _ _ _ _ c.requires.0.told.known.called _ _ _ _ c.honest_slots-made.ensures)) c.requires.1 _ c.put_variables.new.flat c.put_variables.auto.flat
    (supplied_honest _ _ _ _ _ _ _ _ _ _
    (worked_out_law l _ _ _ _ _ _ _ _ _ told _ _ _ c.honest_slots-made.ensures) _ _ follows c.put_variables.ensures)
