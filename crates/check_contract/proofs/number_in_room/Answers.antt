-- The rooms' fronts are as long as the counts say.
use Rattle.kit.specs.Names.{sym, arith}
use Rattle.check_contract.proofs.Limits.{counted_limits, room_made}
use Rattle.check_contract.proofs.Sources.{source_front}
use Rattle.check_contract.proofs.number_in_room.Goals as goal

pub overflow_sub-parameter_numbers : goal.overflow_sub-parameter_numbers
overflow_sub-parameter_numbers c = let within = counted_limits _ _ c.requires.0 in omega (arith, within.least)

pub slice_bounds-fields-end : goal.slice_bounds-fields-end
slice_bounds-fields-end c = let within = counted_limits _ _ c.requires.0 in let room = c.numbers_room-fields.ensures.0 in omega (arith, within.fields, room)

pub slice_bounds-decoded_number-end : goal.slice_bounds-decoded_number-end
slice_bounds-decoded_number-end c = let within = counted_limits _ _ c.requires.0 in let made = room_made c.args.file.now c.args.l c.numbers_room-fields.result c.numbers_room-functions.result c.numbers_room-parameters.result c.args.nodes.now c.args.owners.now c.requires.0 c.numbers_room-fields.ensures.0 c.numbers_room-functions.ensures.0 c.numbers_room-parameters.ensures.0 c.requires.1 c.requires.2 in sym made.decodable.for_fields

pub slice_bounds-functions-end : goal.slice_bounds-functions-end
slice_bounds-functions-end c = let within = counted_limits _ _ c.requires.0 in let room = c.numbers_room-functions.ensures.0 in omega (arith, within.functions, room)

pub slice_bounds-decoded_number-end-2 : goal.slice_bounds-decoded_number-end-2
slice_bounds-decoded_number-end-2 c = let within = counted_limits _ _ c.requires.0 in let made = room_made c.args.file.now c.args.l c.numbers_room-fields.result c.numbers_room-functions.result c.numbers_room-parameters.result c.args.nodes.now c.args.owners.now c.requires.0 c.numbers_room-fields.ensures.0 c.numbers_room-functions.ensures.0 c.numbers_room-parameters.ensures.0 c.requires.1 c.requires.2 in sym made.decodable.for_functions

pub slice_bounds-parameters-end : goal.slice_bounds-parameters-end
slice_bounds-parameters-end c = let within = counted_limits _ _ c.requires.0 in let room = c.numbers_room-parameters.ensures.0 in omega (arith, within.functions, within.least, within.most, room)

pub slice_bounds-decoded_number-end-3 : goal.slice_bounds-decoded_number-end-3
slice_bounds-decoded_number-end-3 c = let within = counted_limits _ _ c.requires.0 in let made = room_made c.args.file.now c.args.l c.numbers_room-fields.result c.numbers_room-functions.result c.numbers_room-parameters.result c.args.nodes.now c.args.owners.now c.requires.0 c.numbers_room-fields.ensures.0 c.numbers_room-functions.ensures.0 c.numbers_room-parameters.ensures.0 c.requires.1 c.requires.2 in omega (arith, made.decodable.for_parameters, within.least)

pub slice_bounds-decoded_number-end-5 : goal.slice_bounds-decoded_number-end-5
slice_bounds-decoded_number-end-5 c = let within = counted_limits _ _ c.requires.0 in let made = room_made c.args.file.now c.args.l c.numbers_room-fields.result c.numbers_room-functions.result c.numbers_room-parameters.result c.args.nodes.now c.args.owners.now c.requires.0 c.numbers_room-fields.ensures.0 c.numbers_room-functions.ensures.0 c.numbers_room-parameters.ensures.0 c.requires.1 c.requires.2 in sym made.decodable.for_nodes

pub decoded_number-requires : goal.decoded_number-requires
decoded_number-requires c = let within = counted_limits _ _ c.requires.0 in let made = room_made c.args.file.now c.args.l c.numbers_room-fields.result c.numbers_room-functions.result c.numbers_room-parameters.result c.args.nodes.now c.args.owners.now c.requires.0 c.numbers_room-fields.ensures.0 c.numbers_room-functions.ensures.0 c.numbers_room-parameters.ensures.0 c.requires.1 c.requires.2 in made

pub returns : goal.returns
returns c = let number = c.decoded_number in
    (number.ensures.0, source_front _ _ _ _ c.requires.0.layout number.ensures.1)
