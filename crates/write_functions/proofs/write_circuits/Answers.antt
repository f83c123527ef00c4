-- The log, the circuits of its claims, and what they tell.
use Rattle.kit.specs.Names.{arith}
use Rattle.write_headings.proofs.Parts.{private_is_law}
use Rattle.write_functions.proofs.Logs.{log_ready, circuits_asked, circuits_written}
use Rattle.write_functions.proofs.write_circuits.Goals as goal

pub byte_at-parameters-requires : goal.byte_at-parameters-requires
byte_at-parameters-requires c = omega (arith, c.requires.room.context.near_function)

pub overflow_add-function : goal.overflow_add-function
overflow_add-function c = omega (arith, c.requires.room.context.near_function)

pub count_private-private-requires : goal.count_private-private-requires
count_private-private-requires c = let pre = c.requires in
    omega (arith, pre.room.context.near_function, pre.room.context.few_parameters, c.byte_at-parameters.ensures.value)

pub function_log-end-requires : goal.function_log-end-requires
function_log-end-requires c = let args = c.args in let pre = c.requires in
    log_ready _ _ _ args.numbers.now args.out.now args.base pre _ (private_is_law _ _ _ _ c.byte_at-parameters.ensures.value
    c.count_private-private.ensures)

pub overflow_mul-base : goal.overflow_mul-base
overflow_mul-base c = omega (arith, c.requires.room.nodes)

pub put_circuits-circuits-requires : goal.put_circuits-circuits-requires
put_circuits-circuits-requires c = let args = c.args in let pre = c.requires in
    let byte_at = c.byte_at-parameters.ensures.value in
    let count-private = c.count_private-private.ensures in
    let function-log = c.function_log-end.ensures in
    circuits_asked _ _ _ args.numbers.now args.out.now args.base pre _ (private_is_law _ _ _ _ byte_at count-private) _ _ function-log

pub overflow_sub-result : goal.overflow_sub-result
overflow_sub-result c = omega (arith, c.function_log-end.ensures.variable)

pub returns : goal.returns
returns c = let args = c.args in let pre = c.requires in
    let byte_at = c.byte_at-parameters.ensures.value in
    let count-private = c.count_private-private.ensures in
    let function-log = c.function_log-end.ensures in
    let put-circuits = c.put_circuits-circuits in
    circuits_written _ _ _ args.numbers.now args.out.now args.base pre _ (private_is_law _ _ _ _ byte_at count-private) _ _ function-log _ _
    _ put-circuits.ensures put-circuits.auto.numbers
