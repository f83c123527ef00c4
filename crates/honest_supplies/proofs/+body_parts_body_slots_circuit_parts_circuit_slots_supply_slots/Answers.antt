use Rattle.std.specs.Prelude.{◌≤◌}
use Rattle.kit.specs.Names.{arith}
use Rattle.definitions.specs.ContractFile.{me_name, owned_by}
use Rattle.definitions.specs.Rewriting.{always}
use Rattle.file_accepted.specs.Context.{scope_in}
use Rattle.rewrite_events.specs.Events.{body_events, circuit_events}
use Rattle.honest_supplies.proofs.Writing.{wrote_as, wrote_supply, wrote_read, room_slot, room_circuit, room_parts, room_read}
use Rattle.honest_supplies.proofs.Steps.{ready_as, first_ready, second_ready, none_wrote, two_wrote, body_kept, body_supplied, circuit_kept, circuit_read, owner_ready, owner_wrote, supplied_is, read_is}
use Rattle.honest_supplies.proofs.+body_parts_body_slots_circuit_parts_circuit_slots_supply_slots.Goals as goal

pub body_parts-body_slots-j-requires : goal.body_parts-body_slots-j-requires
body_parts-body_slots-j-requires t c = let args = c.args in let ready = c.requires in
    let parts-of = c.parts_of-parts in let many : 2 ≤ parts-of.result.count = omega arith in
    let less = parts-of.ensures.first (omega arith) in
    (omega arith, first_ready _ _ _ _ (body_events (scope_in args.function.now.file.now args.function.now.at) always) _ parts-of.ensures ready many)

pub body_parts-body_slots-requires-in_default : goal.body_parts-body_slots-requires-in_default
body_parts-body_slots-requires-in_default t c = let args = c.args in
    let ready = c.requires in let parts-of = c.parts_of-parts in
    let many : 2 ≤ parts-of.result.count = omega arith in let less = parts-of.ensures.second many in
    (omega arith, second_ready _ _ _ _ (body_events (scope_in args.function.now.file.now args.function.now.at) always) _ parts-of.ensures ready _ _ _ many c.body_slots-j.ensures)

pub body_parts-returns-in-0 : goal.body_parts-returns-in-0
body_parts-returns-in-0 t c = let args = c.args in let ready = c.requires in
    none_wrote _ _ _ _ (body_events (scope_in args.function.now.file.now args.function.now.at) always) _ c.parts_of-parts.ensures ready _ c.in-0.is

pub body_parts-returns-in_default : goal.body_parts-returns-in_default
body_parts-returns-in_default t c = let args = c.args in let ready = c.requires in
    let parts-of = c.parts_of-parts in
    let body-slots2 = c.body_slots-j.ensures in let many : 2 ≤ parts-of.result.count = omega arith in
    two_wrote _ _ _ _ (body_events (scope_in args.function.now.file.now args.function.now.at) always) _ parts-of.ensures ready _ _ _ _ _ many body-slots2 c.body_slots-in_default.ensures

pub body_slots-body_parts-requires : goal.body_slots-body_parts-requires
body_slots-body_parts-requires t c = let ready = c.requires in
    (omega arith, ready_as _ _ _ _ _ _ (body_kept _ _ _ c.supplied_code.ensures c.if-supplied_code-eq0.true) ready)

pub body_slots-supply_slots-requires : goal.body_slots-supply_slots-requires
body_slots-supply_slots-requires t c = let ready = c.requires in
    (omega arith, (owner_ready _ _ _ _ _ (owned_by me_name) _ _ (ready_as _ _ _ _ _ _ (body_supplied _ _ _ c.supplied_code.ensures c.if-supplied_code-eq0.false) ready)))

pub body_slots-returns-then-supplied_code-eq0 : goal.body_slots-returns-then-supplied_code-eq0
body_slots-returns-then-supplied_code-eq0 t c = wrote_as _ _ _ _ _ _ _ (body_kept _ _ _ c.supplied_code.ensures c.if-supplied_code-eq0.true) c.body_parts.ensures

pub body_slots-returns-else-supplied_code-eq0 : goal.body_slots-returns-else-supplied_code-eq0
body_slots-returns-else-supplied_code-eq0 t c = let supplied_code = c.supplied_code.ensures in
    wrote_as _ _ _ _ _ _ _ (body_supplied _ _ _ supplied_code c.if-supplied_code-eq0.false) (owner_wrote _ _ _ _ _ _ _ _ _ _ _ _ _ c.supply_slots.ensures)

pub circuit_parts-circuit_slots-j-requires : goal.circuit_parts-circuit_slots-j-requires
circuit_parts-circuit_slots-j-requires t c = let args = c.args in let ready = c.requires in
    let parts-of = c.parts_of-parts in let many : 2 ≤ parts-of.result.count = omega arith in
    let less = parts-of.ensures.first (omega arith) in
    (omega arith, first_ready _ _ _ _ (circuit_events (scope_in args.function.now.file.now args.function.now.at) always) _ parts-of.ensures ready many)

pub circuit_parts-circuit_slots-requires-in_default : goal.circuit_parts-circuit_slots-requires-in_default
circuit_parts-circuit_slots-requires-in_default t c = let args = c.args in
    let ready = c.requires in let parts-of = c.parts_of-parts in
    let many : 2 ≤ parts-of.result.count = omega arith in let less = parts-of.ensures.second many in
    (omega arith, second_ready _ _ _ _ (circuit_events (scope_in args.function.now.file.now args.function.now.at) always) _ parts-of.ensures ready _ _ _ many c.circuit_slots-j.ensures)

pub circuit_parts-returns-in-0 : goal.circuit_parts-returns-in-0
circuit_parts-returns-in-0 t c = let args = c.args in let ready = c.requires in
    none_wrote _ _ _ _ (circuit_events (scope_in args.function.now.file.now args.function.now.at) always) _ c.parts_of-parts.ensures ready _ c.in-0.is

pub circuit_parts-returns-in_default : goal.circuit_parts-returns-in_default
circuit_parts-returns-in_default t c = let args = c.args in let ready = c.requires in
    let parts-of = c.parts_of-parts in
    let circuit-slots2 = c.circuit_slots-j.ensures in let many : 2 ≤ parts-of.result.count = omega arith in
    two_wrote _ _ _ _ (circuit_events (scope_in args.function.now.file.now args.function.now.at) always) _ parts-of.ensures ready _ _ _ _ _ many circuit-slots2 c.circuit_slots-in_default.ensures

pub circuit_slots-circuit_parts-requires : goal.circuit_slots-circuit_parts-requires
circuit_slots-circuit_parts-requires t c = let ready = c.requires in
    (omega arith, ready_as _ _ _ _ _ _ (circuit_kept _ _ _ c.read_code.ensures c.if-read_code-eq0.true) ready)

pub circuit_slots-body_parts-j-requires : goal.circuit_slots-body_parts-j-requires
circuit_slots-body_parts-j-requires t c = let ready = c.requires in
    (omega arith, record { inside = ready.inside; room = room_parts _ _ _ _ _ (ready_as _ _ _ _ _ _ (circuit_read _ _ _ c.read_code.ensures c.if-read_code-eq0.false) ready).room })

pub circuit_slots-put_slot-requires : goal.circuit_slots-put_slot-requires
circuit_slots-put_slot-requires t c = let ready = c.requires in
    let read_code = c.read_code.ensures in
    let if1-left = c.if-read_code-eq0.false in
    room_read _ _ _ _ _ _ _ _ (ready_as _ _ _ _ _ _ (circuit_read _ _ _ read_code if1-left) ready).room c.body_parts-j.ensures

pub circuit_slots-overflow_add-result : goal.circuit_slots-overflow_add-result
circuit_slots-overflow_add-result t c = let ready = c.requires in
    let read_code = c.read_code.ensures in
    let if1-left = c.if-read_code-eq0.false in
    let body-parts-2 = c.body_parts-j.ensures in
    omega (arith, room_read _ _ _ _ _ _ _ _ (ready_as _ _ _ _ _ _ (circuit_read _ _ _ read_code if1-left) ready).room body-parts-2)

pub circuit_slots-returns-then-read_code-eq0 : goal.circuit_slots-returns-then-read_code-eq0
circuit_slots-returns-then-read_code-eq0 t c = wrote_as _ _ _ _ _ _ _ (circuit_kept _ _ _ c.read_code.ensures c.if-read_code-eq0.true) c.circuit_parts.ensures

pub circuit_slots-returns-else-read_code-eq0 : goal.circuit_slots-returns-else-read_code-eq0
circuit_slots-returns-else-read_code-eq0 t c = let ready = c.requires in
    let read_code = c.read_code.ensures in
    let if1-left = c.if-read_code-eq0.false in
    let body-parts-2 = c.body_parts-j.ensures in
    (wrote_as _ _ _ _ _ _ _ (circuit_read _ _ _ read_code if1-left) (wrote_read _ _ _ _ _ _ _ _ _ (ready_as _ _ _ _ _ _ (circuit_read _ _ _ read_code if1-left) ready).room (read_is _ _ _ _ _ _ _) body-parts-2 c.put_slot.ensures))

pub supply_slots-put_slot-requires : goal.supply_slots-put_slot-requires
supply_slots-put_slot-requires t c = let ready = c.requires in room_slot _ _ _ _ _ _ ready.room

pub supply_slots-circuit_slots-requires : goal.supply_slots-circuit_slots-requires
supply_slots-circuit_slots-requires t c = let ready = c.requires in
    (omega arith, record { inside = ready.inside; room = room_circuit _ _ _ _ _ _ _ _ ready.room c.put_slot.ensures })

pub supply_slots-returns : goal.supply_slots-returns
supply_slots-returns t c = let ready = c.requires in
    let supplied-number = c.supplied_number-number.ensures in
    let put-slot = c.put_slot.ensures in
    (wrote_supply _ _ _ _ _ _ _ _ _ _ _ ready.room put-slot (supplied_is _ _ _ _ _ _ _ _ supplied-number) c.circuit_slots.ensures)
