use Rattle.honest_assignments.proofs.PrivatePlaces.{field_ready, field_wrote, put_at}
use Rattle.honest_assignments.proofs.field_slots.Goals as goal

pub place_slots-end-requires : goal.place_slots-end-requires
place_slots-end-requires c = let args = c.args in let pre = c.requires in
    field_ready args.function.now.file.now _ args.node.arg _ _ _ _ c.is_private_field-private.ensures pre

pub returns : goal.returns
returns c = let args = c.args in
    let is-private-field = c.is_private_field-private.ensures in
    let place-slots = c.place_slots-end.ensures in
    let value = c.value-v.ensures in
    (put_at args.turn.live args.numbers.now _ _ _ _ _ c.position-p.ensures value c.put_taken.ensures, field_wrote args.function.now.file.now _ args.node.arg _ _ _ _ _ _ _ _ _ _ is-private-field place-slots)
