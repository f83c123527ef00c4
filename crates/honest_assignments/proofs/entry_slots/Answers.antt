use Rattle.kit.specs.Names.{◌∙◌, ap}
use Rattle.definitions.specs.Original.{position}
use Rattle.file_accepted.specs.Context.{fields_in}
use Rattle.honest_assignments.proofs.PrivatePlaces.{key_ready, entry_ready, entry_wrote, put_at}
use Rattle.honest_assignments.proofs.entry_slots.Goals as goal

pub body_slots-j-requires : goal.body_slots-j-requires
body_slots-j-requires c = key_ready _ _ _ _ _ _ _ c.requires

pub place_slots-end-requires : goal.place_slots-end-requires
place_slots-end-requires c = let pre = c.requires in
    let is-private-entry = c.is_private_entry-private.ensures in
    entry_ready _ _ _ _ _ _ _ pre _ _ _ _ _ _ _ is-private-entry c.body_slots-j.ensures

pub returns : goal.returns
returns c = let args = c.args in let pre = c.requires in
    let is-private-entry = c.is_private_entry-private.ensures in
    let body-slots = c.body_slots-j.ensures in
    let place-slots = c.place_slots-end.ensures in
    let value = c.value-k.ensures in
    let value2 = c.value-v.ensures in
    (put_at args.turn.live args.numbers.now _ _ _ _ _ (c.position-p.ensures ∙ ap (position (fields_in args.function.now.file.now) args.node.arg) value) value2 c.put_taken.ensures, entry_wrote _ _ _ _ _ _ _ pre _ _ _ _ _ _ _ is-private-entry body-slots _ _ place-slots)
