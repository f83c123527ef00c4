use Rattle.kit.specs.Names.{◌∙◌, arith}
use Rattle.write_circuits.proofs.Entries.{claims_none, claims_claim, claims_other, claimable_next, claimable_first}
use Rattle.write_circuits.proofs.Turns.{room_same, put_same, put_none, room_circuit, room_four, root_fits, room_circuits, put_first}
use Rattle.write_circuits.proofs.+put_circuits.Goals as goal

pub offset_bounds-log-from : goal.offset_bounds-log-from
offset_bounds-log-from t c = let (claimable, _) = c.requires in let some = c.if-left-eq0.false in
    omega (arith, claimable.space)

pub bounds-log-from : goal.bounds-log-from
bounds-log-from t c = let (claimable, _) = c.requires in
    let some = c.if-left-eq0.false in omega (arith, claimable.space)

pub put_circuit-nodes-requires : goal.put_circuit-nodes-requires
put_circuit-nodes-requires t c = let (claimable, circuits_room) = c.requires in
    let if1-left = c.if-left-eq0.false in let if2-taken = c.if-log-from-eq-CLAIM_LOGGED.true in
    (claimable_first _ _ _ _ _ if1-left claimable if2-taken, room_circuit _ _ _ _ _ _ _ (room_same _ _ _ _ _ _ _ (claims_claim _ _ _ _ _ if1-left if2-taken) circuits_room))

pub overflow_add-base : goal.overflow_add-base
overflow_add-base t c = let (_, circuits_room) = c.requires in
    let if1-left = c.if-left-eq0.false in
    let fits = root_fits _ _ _ _ _ _ _ (room_same _ _ _ _ _ _ _ (claims_claim _ _ _ _ _ if1-left c.if-log-from-eq-CLAIM_LOGGED.true) circuits_room) _ _ c.put_circuit-nodes.ensures in
    omega arith

pub overflow_sub-base : goal.overflow_sub-base
overflow_sub-base t c = let (_, circuits_room) = c.requires in
    let if1-left = c.if-left-eq0.false in
    let fits = root_fits _ _ _ _ _ _ _ (room_same _ _ _ _ _ _ _ (claims_claim _ _ _ _ _ if1-left c.if-log-from-eq-CLAIM_LOGGED.true) circuits_room) _ _ c.put_circuit-nodes.ensures in
    omega arith

pub overflow_cast-base : goal.overflow_cast-base
overflow_cast-base t c = let (_, circuits_room) = c.requires in
    let if1-left = c.if-left-eq0.false in
    let fits = root_fits _ _ _ _ _ _ _ (room_same _ _ _ _ _ _ _ (claims_claim _ _ _ _ _ if1-left c.if-log-from-eq-CLAIM_LOGGED.true) circuits_room) _ _ c.put_circuit-nodes.ensures in
    omega arith

pub put_claim-requires : goal.put_claim-requires
put_claim-requires t c = let (claimable, circuits_room) = c.requires in
    let if1-left = c.if-left-eq0.false in
    let if2-taken = c.if-log-from-eq-CLAIM_LOGGED.true in
    ((claimable_first _ _ _ _ _ if1-left claimable if2-taken).space, room_four _ _ _ _ _ _ _ (room_same _ _ _ _ _ _ _ (claims_claim _ _ _ _ _ if1-left if2-taken) circuits_room))

pub overflow_add-rest : goal.overflow_add-rest
overflow_add-rest t c = let (claimable, _) = c.requires in
    let if1-left = c.if-left-eq0.false in let some = if1-left in
    omega (arith, claimable.space)

pub overflow_sub-rest : goal.overflow_sub-rest
overflow_sub-rest t c = let some = c.if-left-eq0.false in omega arith

pub overflow_add-noted : goal.overflow_add-noted
overflow_add-noted t c = let (_, circuits_room) = c.requires in
    let if1-left = c.if-left-eq0.false in
    let if2-taken = c.if-log-from-eq-CLAIM_LOGGED.true in
    let inside = room_four _ _ _ _ _ _ _ (room_same _ _ _ _ _ _ _ (claims_claim _ _ _ _ _ if1-left if2-taken) circuits_room) in
    omega (arith)

pub overflow_mul-nodes : goal.overflow_mul-nodes
overflow_mul-nodes t c = let (_, circuits_room) = c.requires in
    let if1-left = c.if-left-eq0.false in
    let if2-taken = c.if-log-from-eq-CLAIM_LOGGED.true in
    let put-circuit = c.put_circuit-nodes.ensures in
    let fits = root_fits _ _ _ _ _ _ _ (room_same _ _ _ _ _ _ _ (claims_claim _ _ _ _ _ if1-left if2-taken) circuits_room) _ _ put-circuit in
    omega arith

pub overflow_add-at : goal.overflow_add-at
overflow_add-at t c = let (_, circuits_room) = c.requires in
    let if1-left = c.if-left-eq0.false in
    let if2-taken = c.if-log-from-eq-CLAIM_LOGGED.true in
    let put-circuit = c.put_circuit-nodes in
    let fits = root_fits _ _ _ _ _ _ _ (room_same _ _ _ _ _ _ _ (claims_claim _ _ _ _ _ if1-left if2-taken) circuits_room) _ _ put-circuit.ensures in
    let later = room_circuits _ _ _ _ _ _ _ (room_same _ _ _ _ _ _ _ (claims_claim _ _ _ _ _ if1-left if2-taken) circuits_room) _ _ _ (record { circuit = put-circuit.ensures; claim = c.put_claim.ensures }) in
    omega (arith, later.bytes, put-circuit.auto.out)

pub overflow_add-base-then-log-from-eq-CLAIM_LOGGED : goal.overflow_add-base-then-log-from-eq-CLAIM_LOGGED
overflow_add-base-then-log-from-eq-CLAIM_LOGGED t c = let (_, circuits_room) = c.requires in
    let if1-left = c.if-left-eq0.false in
    let if2-taken = c.if-log-from-eq-CLAIM_LOGGED.true in
    let put-circuit = c.put_circuit-nodes.ensures in
    let fits = root_fits _ _ _ _ _ _ _ (room_same _ _ _ _ _ _ _ (claims_claim _ _ _ _ _ if1-left if2-taken) circuits_room) _ _ put-circuit in
    omega arith

pub put_circuits-later-requires : goal.put_circuits-later-requires
put_circuits-later-requires t c = let (claimable, circuits_room) = c.requires in
    let if1-left = c.if-left-eq0.false in
    let if2-taken = c.if-log-from-eq-CLAIM_LOGGED.true in
    let put-circuit = c.put_circuit-nodes.ensures in let some = if1-left in
    (omega arith, (claimable_next _ _ _ _ _ if1-left claimable, room_circuits _ _ _ _ _ _ _ (room_same _ _ _ _ _ _ _ (claims_claim _ _ _ _ _ if1-left if2-taken) circuits_room) _ _ _ (record { circuit = put-circuit; claim = c.put_claim.ensures })))

pub overflow_add-result : goal.overflow_add-result
overflow_add-result t c = let (_, circuits_room) = c.requires in
    let if1-left = c.if-left-eq0.false in
    let if2-taken = c.if-log-from-eq-CLAIM_LOGGED.true in
    let put-circuit = c.put_circuit-nodes.ensures in
    let put-claim = c.put_claim in
    let put-circuits-count = c.put_circuits-later.ensures.count in
    let later = room_circuits _ _ _ _ _ _ _ (room_same _ _ _ _ _ _ _ (claims_claim _ _ _ _ _ if1-left if2-taken) circuits_room) _ _ _ (record { circuit = put-circuit; claim = put-claim.ensures }) in
    omega (arith, later.space, put-circuits-count, put-claim.auto.numbers)

pub overflow_add-result-then-log-from-eq-CLAIM_LOGGED : goal.overflow_add-result-then-log-from-eq-CLAIM_LOGGED
overflow_add-result-then-log-from-eq-CLAIM_LOGGED t c = let (_, circuits_room) = c.requires in
    let if1-left = c.if-left-eq0.false in
    let if2-taken = c.if-log-from-eq-CLAIM_LOGGED.true in
    let put-circuit = c.put_circuit-nodes.ensures in
    let put-claim = c.put_claim.ensures in
    let put-circuits-nodes = c.put_circuits-later.ensures.nodes in
    let later = room_circuits _ _ _ _ _ _ _ (room_same _ _ _ _ _ _ _ (claims_claim _ _ _ _ _ if1-left if2-taken) circuits_room) _ _ _ (record { circuit = put-circuit; claim = put-claim }) in
    omega (arith, later.numbers, put-circuits-nodes)

pub put_circuits-requires : goal.put_circuits-requires
put_circuits-requires t c = let (claimable, circuits_room) = c.requires in
    let if1-left = c.if-left-eq0.false in let some = if1-left in
    (omega arith, (claimable_next _ _ _ _ _ if1-left claimable, room_same _ _ _ _ _ _ _ (claims_other _ _ _ _ _ if1-left c.if-log-from-eq-CLAIM_LOGGED.false) circuits_room))

pub returns-then-left-eq0 : goal.returns-then-left-eq0
returns-then-left-eq0 t c = put_same _ _ _ _ _ _ _ _ _ _ (claims_none _ _ _ _ _ c.if-left-eq0.true) (put_none _ _ _ _ _)

pub shape_of-numbers-then-log-from-eq-CLAIM_LOGGED : goal.shape_of-numbers-then-log-from-eq-CLAIM_LOGGED
shape_of-numbers-then-log-from-eq-CLAIM_LOGGED t c = c.put_circuits-later.auto.numbers ∙ c.put_claim.auto.numbers

pub shape_of-out-then-log-from-eq-CLAIM_LOGGED : goal.shape_of-out-then-log-from-eq-CLAIM_LOGGED
shape_of-out-then-log-from-eq-CLAIM_LOGGED t c = let put-circuit-kept = c.put_circuit-nodes.auto.out in
    let put-circuits-kept = c.put_circuits-later.auto.out in
    put-circuits-kept ∙ put-circuit-kept

pub returns-then-log-from-eq-CLAIM_LOGGED : goal.returns-then-log-from-eq-CLAIM_LOGGED
returns-then-log-from-eq-CLAIM_LOGGED t c = let (_, circuits_room) = c.requires in
    let if1-left = c.if-left-eq0.false in
    let if2-taken = c.if-log-from-eq-CLAIM_LOGGED.true in
    let put-circuit = c.put_circuit-nodes.ensures in
    let put-claim = c.put_claim.ensures in
    let put-circuits-2 = c.put_circuits-later.ensures in
    put_same _ _ _ _ _ _ _ _ _ _ (claims_claim _ _ _ _ _ if1-left if2-taken) (put_first _ _ _ _ _ _ _ (room_same _ _ _ _ _ _ _ (claims_claim _ _ _ _ _ if1-left if2-taken) circuits_room) _ _ _ (record { circuit = put-circuit; claim = put-claim }) _ _ _ put-circuits-2)

pub shape_of-numbers-else-log-from-eq-CLAIM_LOGGED : goal.shape_of-numbers-else-log-from-eq-CLAIM_LOGGED
shape_of-numbers-else-log-from-eq-CLAIM_LOGGED t c = c.put_circuits.auto.numbers

pub shape_of-out-else-log-from-eq-CLAIM_LOGGED : goal.shape_of-out-else-log-from-eq-CLAIM_LOGGED
shape_of-out-else-log-from-eq-CLAIM_LOGGED t c = c.put_circuits.auto.out

pub returns-else-log-from-eq-CLAIM_LOGGED : goal.returns-else-log-from-eq-CLAIM_LOGGED
returns-else-log-from-eq-CLAIM_LOGGED t c = let if1-left = c.if-left-eq0.false in
    let if2-left = c.if-log-from-eq-CLAIM_LOGGED.false in
    put_same _ _ _ _ _ _ _ _ _ _ (claims_other _ _ _ _ _ if1-left if2-left) c.put_circuits.ensures
