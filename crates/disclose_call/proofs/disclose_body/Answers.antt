-- The body is worked out from its root, on the addresses that the places give and on the file's nodes decoded.
use Rattle.kit.specs.Names.{refl, sym, arith, length-take-le}
use Rattle.file_accepted.proofs.Sources.{context_with}
use Rattle.disclose_call.proofs.Bodies.{addresses_room, body_ready, body_disclosed}
use Rattle.disclose_call.proofs.disclose_body.Goals as goal

pub put_addresses-requires : goal.put_addresses-requires
put_addresses-requires c = addresses_room _ _ _ _ _ _ _ c.requires _ refl

pub decode_source-count-requires : goal.decode_source-count-requires
decode_source-count-requires c = (c.requires.accepted, omega (arith, c.numbers_room-room.ensures.0))

pub root_at-root-requires : goal.root_at-root-requires
root_at-root-requires c = c.requires.context.near_function

pub slice_bounds-function-end : goal.slice_bounds-function-end
slice_bounds-function-end c = sym (length-take-le _ _ (omega (arith, c.decode_source-count.ensures.upper_bound, c.numbers_room-room.ensures.0)))

pub invariant_of-function : goal.invariant_of-function
invariant_of-function c = record { context = context_with _ _ _ c.requires.context c.decode_source-count.ensures.source }

pub disclose_statement-told-requires : goal.disclose_statement-told-requires
disclose_statement-told-requires c = body_ready _ _ _ _ _ _ _ c.requires _ c.put_addresses.ensures _ _ refl refl refl c.root_at-root.ensures

pub returns : goal.returns
returns c = body_disclosed _ _ _ _ _ _ _ c.requires _ c.put_addresses.ensures _ _ _ _ c.root_at-root.ensures c.disclose_statement-told.ensures
