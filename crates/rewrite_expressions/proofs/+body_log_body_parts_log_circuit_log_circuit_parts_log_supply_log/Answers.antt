use Rattle.kit.specs.Names.{◌∙◌, arith}
use Rattle.rewrite_expressions.proofs.Steps.{kept_ready, kept_logged, supplied_ready, supplied_logged, circuit_ready, circuit_logged, read_ready, read_room, read_small, read_done}
use Rattle.rewrite_expressions.proofs.Parts.{none_logged, first_below, first_ready, one_logged, second_below, second_ready, two_logged}
use Rattle.rewrite_expressions.proofs.Supplying.{variable_slot, variable_small, inside_ready, claimed_slot, claimed_small, supplied_done}
use Rattle.rewrite_expressions.proofs.+body_log_body_parts_log_circuit_log_circuit_parts_log_supply_log.Goals as goal

pub body_log-supplied_code-code-requires : goal.body_log-supplied_code-code-requires
body_log-supplied_code-code-requires t c = let ready = c.requires in ready.inside

pub body_log-body_parts_log-requires : goal.body_log-body_parts_log-requires
body_log-body_parts_log-requires t c = let args = c.args in let ready = c.requires in
    (omega arith, kept_ready _ _ args.guard _ _ c.supplied_code-code.ensures _ _ c.if-code-eq0.true ready)

pub body_log-overflow_sub-code : goal.body_log-overflow_sub-code
body_log-overflow_sub-code t c = omega arith

pub body_log-supply_log-requires : goal.body_log-supply_log-requires
body_log-supply_log-requires t c = let args = c.args in let ready = c.requires in
    (omega arith, supplied_ready _ _ args.guard _ _ c.supplied_code-code.ensures _ _ c.if-code-eq0.false ready)

pub body_log-shape_of-log-then-code-eq0 : goal.body_log-shape_of-log-then-code-eq0
body_log-shape_of-log-then-code-eq0 t c = c.body_parts_log.auto.log

pub body_log-returns-then-code-eq0 : goal.body_log-returns-then-code-eq0
body_log-returns-then-code-eq0 t c = let args = c.args in
    let supplied_code = c.supplied_code-code.ensures in
    kept_logged _ _ args.guard _ _ supplied_code _ _ _ _ c.if-code-eq0.true c.body_parts_log.ensures

pub body_log-shape_of-log-else-code-eq0 : goal.body_log-shape_of-log-else-code-eq0
body_log-shape_of-log-else-code-eq0 t c = c.supply_log.auto.log

pub body_log-returns-else-code-eq0 : goal.body_log-returns-else-code-eq0
body_log-returns-else-code-eq0 t c = let args = c.args in
    let supplied_code = c.supplied_code-code.ensures in
    supplied_logged _ _ args.guard _ _ supplied_code _ _ _ _ c.if-code-eq0.false c.supply_log.ensures

pub body_parts_log-parts_of-parts-requires : goal.body_parts_log-parts_of-parts-requires
body_parts_log-parts_of-parts-requires t c = let ready = c.requires in ready.inside

pub body_parts_log-returns-then-parts-eq0 : goal.body_parts_log-returns-then-parts-eq0
body_parts_log-returns-then-parts-eq0 t c = let ready = c.requires in
    none_logged _ _ _ _ c.parts_of-parts.ensures _ _ ready c.if-parts-eq0.true

pub body_parts_log-body_log-q-requires : goal.body_parts_log-body_log-q-requires
body_parts_log-body_log-q-requires t c = let ready = c.requires in let parts-of = c.parts_of-parts.ensures in
    let if1-left = c.if-parts-eq0.false in let less = first_below _ _ _ _ parts-of _ _ ready if1-left in
    (omega arith, first_ready _ _ _ _ parts-of _ _ ready if1-left)

pub body_parts_log-shape_of-log-then-parts-eq1 : goal.body_parts_log-shape_of-log-then-parts-eq1
body_parts_log-shape_of-log-then-parts-eq1 t c = c.body_log-q.auto.log

pub body_parts_log-returns-then-parts-eq1 : goal.body_parts_log-returns-then-parts-eq1
body_parts_log-returns-then-parts-eq1 t c = let ready = c.requires in
    let parts-of = c.parts_of-parts.ensures in
    let if1-left = c.if-parts-eq0.false in
    one_logged _ _ _ _ parts-of _ _ ready if1-left _ _ c.body_log-q.ensures c.if-parts-eq1.true

pub body_parts_log-body_log-requires : goal.body_parts_log-body_log-requires
body_parts_log-body_log-requires t c = let ready = c.requires in
    let parts-of = c.parts_of-parts.ensures in
    let if1-left = c.if-parts-eq0.false in
    let body-log-2 = c.body_log-q.ensures in let if2-left = c.if-parts-eq1.false in
    let less = second_below _ _ _ _ parts-of _ _ ready if1-left _ _ body-log-2 if2-left in
    (omega arith, second_ready _ _ _ _ parts-of _ _ ready if1-left _ _ body-log-2 if2-left)

pub body_parts_log-shape_of-log : goal.body_parts_log-shape_of-log
body_parts_log-shape_of-log t c = c.body_log.auto.log ∙ c.body_log-q.auto.log

pub body_parts_log-returns : goal.body_parts_log-returns
body_parts_log-returns t c = let ready = c.requires in
    let parts-of = c.parts_of-parts.ensures in
    let if1-left = c.if-parts-eq0.false in
    let body-log-2 = c.body_log-q.ensures in
    two_logged _ _ _ _ parts-of _ _ ready if1-left _ _ body-log-2 c.if-parts-eq1.false _ _ c.body_log.ensures

pub circuit_log-read_code-code-requires : goal.circuit_log-read_code-code-requires
circuit_log-read_code-code-requires t c = let ready = c.requires in ready.inside

pub circuit_log-circuit_parts_log-requires : goal.circuit_log-circuit_parts_log-requires
circuit_log-circuit_parts_log-requires t c = let args = c.args in let ready = c.requires in
    (omega arith, circuit_ready _ _ args.guard _ _ c.read_code-code.ensures _ _ c.if-code-eq0.true ready)

pub circuit_log-body_parts_log-q-requires : goal.circuit_log-body_parts_log-q-requires
circuit_log-body_parts_log-q-requires t c = let args = c.args in let ready = c.requires in
    (omega arith, read_ready _ _ args.guard _ _ c.read_code-code.ensures _ _ c.if-code-eq0.false ready)

pub circuit_log-overflow_sub-read : goal.circuit_log-overflow_sub-read
circuit_log-overflow_sub-read t c = let some = c.if-code-eq0.false in omega arith

pub circuit_log-log_entry-requires : goal.circuit_log-log_entry-requires
circuit_log-log_entry-requires t c = let args = c.args in
    let ready = c.requires in let read_code = c.read_code-code.ensures in
    let if1-left = c.if-code-eq0.false in
    let body-parts-log-2 = c.body_parts_log-q.ensures in
    (read_room _ _ args.guard _ _ read_code _ _ if1-left ready _ _ body-parts-log-2, read_small _ _ args.guard _ _ read_code _ _ if1-left ready _ _ body-parts-log-2 c.args.function.now.context.few_nodes)

pub circuit_log-shape_of-log-then-code-eq0 : goal.circuit_log-shape_of-log-then-code-eq0
circuit_log-shape_of-log-then-code-eq0 t c = c.circuit_parts_log.auto.log

pub circuit_log-returns-then-code-eq0 : goal.circuit_log-returns-then-code-eq0
circuit_log-returns-then-code-eq0 t c = let args = c.args in
    let read_code = c.read_code-code.ensures in
    circuit_logged _ _ args.guard _ _ read_code _ _ _ _ c.if-code-eq0.true c.circuit_parts_log.ensures

pub circuit_log-shape_of-log-else-code-eq0 : goal.circuit_log-shape_of-log-else-code-eq0
circuit_log-shape_of-log-else-code-eq0 t c = c.log_entry.auto.log ∙ c.body_parts_log-q.auto.log

pub circuit_log-returns-else-code-eq0 : goal.circuit_log-returns-else-code-eq0
circuit_log-returns-else-code-eq0 t c = let args = c.args in
    let ready = c.requires in
    let read_code = c.read_code-code.ensures in
    let if1-left = c.if-code-eq0.false in
    let body-parts-log-2 = c.body_parts_log-q.ensures in
    read_done _ _ args.guard _ _ read_code _ _ if1-left ready _ _ body-parts-log-2 _ _ c.log_entry.ensures

pub circuit_parts_log-parts_of-parts-requires : goal.circuit_parts_log-parts_of-parts-requires
circuit_parts_log-parts_of-parts-requires t c = let ready = c.requires in ready.inside

pub circuit_parts_log-returns-then-parts-eq0 : goal.circuit_parts_log-returns-then-parts-eq0
circuit_parts_log-returns-then-parts-eq0 t c = let ready = c.requires in
    none_logged _ _ _ _ c.parts_of-parts.ensures _ _ ready c.if-parts-eq0.true

pub circuit_parts_log-circuit_log-q-requires : goal.circuit_parts_log-circuit_log-q-requires
circuit_parts_log-circuit_log-q-requires t c = let ready = c.requires in let parts-of = c.parts_of-parts.ensures in
    let if1-left = c.if-parts-eq0.false in let less = first_below _ _ _ _ parts-of _ _ ready if1-left in
    (omega arith, first_ready _ _ _ _ parts-of _ _ ready if1-left)

pub circuit_parts_log-shape_of-log-then-parts-eq1 : goal.circuit_parts_log-shape_of-log-then-parts-eq1
circuit_parts_log-shape_of-log-then-parts-eq1 t c = c.circuit_log-q.auto.log

pub circuit_parts_log-returns-then-parts-eq1 : goal.circuit_parts_log-returns-then-parts-eq1
circuit_parts_log-returns-then-parts-eq1 t c = let ready = c.requires in
    let parts-of = c.parts_of-parts.ensures in
    let if1-left = c.if-parts-eq0.false in
    one_logged _ _ _ _ parts-of _ _ ready if1-left _ _ c.circuit_log-q.ensures c.if-parts-eq1.true

pub circuit_parts_log-circuit_log-requires : goal.circuit_parts_log-circuit_log-requires
circuit_parts_log-circuit_log-requires t c = let ready = c.requires in
    let parts-of = c.parts_of-parts.ensures in
    let if1-left = c.if-parts-eq0.false in
    let circuit-log-2 = c.circuit_log-q.ensures in let if2-left = c.if-parts-eq1.false in
    let less = second_below _ _ _ _ parts-of _ _ ready if1-left _ _ circuit-log-2 if2-left in
    (omega arith, second_ready _ _ _ _ parts-of _ _ ready if1-left _ _ circuit-log-2 if2-left)

pub circuit_parts_log-shape_of-log : goal.circuit_parts_log-shape_of-log
circuit_parts_log-shape_of-log t c = c.circuit_log.auto.log ∙ c.circuit_log-q.auto.log

pub circuit_parts_log-returns : goal.circuit_parts_log-returns
circuit_parts_log-returns t c = let ready = c.requires in
    let parts-of = c.parts_of-parts.ensures in
    let if1-left = c.if-parts-eq0.false in
    let circuit-log-2 = c.circuit_log-q.ensures in
    two_logged _ _ _ _ parts-of _ _ ready if1-left _ _ circuit-log-2 c.if-parts-eq1.false _ _ c.circuit_log.ensures

pub supply_log-log_entry-q-requires : goal.supply_log-log_entry-q-requires
supply_log-log_entry-q-requires t c = let args-guard = c.args.guard in let ready-to-supply = c.requires in
    (variable_slot _ _ _ args-guard _ (omega arith) _ _ ready-to-supply, variable_small _ _ _ args-guard _ (omega arith) _ _ ready-to-supply c.args.function.now.context.few_nodes)

pub supply_log-circuit_log-r-requires : goal.supply_log-circuit_log-r-requires
supply_log-circuit_log-r-requires t c = let args-guard = c.args.guard in
    let ready-to-supply = c.requires in
    (omega arith, inside_ready _ _ _ args-guard _ (omega arith) _ _ ready-to-supply _ _ c.log_entry-q.ensures)

pub supply_log-log_entry-requires : goal.supply_log-log_entry-requires
supply_log-log_entry-requires t c = let args-guard = c.args.guard in let ready-to-supply = c.requires in
    let log-entry = c.log_entry-q.ensures in
    let circuit-log-2 = c.circuit_log-r.ensures in
    (claimed_slot _ _ _ args-guard _ (omega arith) _ _ ready-to-supply _ _ log-entry _ _ circuit-log-2, claimed_small _ _ _ args-guard _ (omega arith) _ _ ready-to-supply _ _ log-entry _ _ circuit-log-2 c.args.function.now.context.few_nodes)

pub supply_log-shape_of-log : goal.supply_log-shape_of-log
supply_log-shape_of-log t c = let log-entry-kept = c.log_entry-q.auto.log in
    let circuit-log-kept = c.circuit_log-r.auto.log in
    c.log_entry.auto.log ∙ circuit-log-kept ∙ log-entry-kept

pub supply_log-returns : goal.supply_log-returns
supply_log-returns t c = let args-guard = c.args.guard in let ready-to-supply = c.requires in
    let log-entry = c.log_entry-q.ensures in
    let circuit-log-2 = c.circuit_log-r.ensures in
    supplied_done _ _ _ args-guard _ (omega arith) _ _ ready-to-supply _ _ log-entry _ _ circuit-log-2 _ _ c.log_entry.ensures
