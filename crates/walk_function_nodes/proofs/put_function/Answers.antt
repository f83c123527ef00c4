-- The constraints with their circuits, then the body.
use Rattle.kit.specs.Names.{refl, arith}
use Rattle.walk_function_nodes.proofs.Whole.{circuits_few, body_ready, function_put}
use Rattle.walk_function_nodes.proofs.put_function.Goals as goal

pub overflow_add-count : goal.overflow_add-count
overflow_add-count c = let pre = c.requires in
    let put-constraints = c.put_constraints-circuits.ensures in
    omega (arith, (circuits_few _ _ _ _ _ _ _ _ pre _ _ _ put-constraints).1)

pub overflow_mul-nodes : goal.overflow_mul-nodes
overflow_mul-nodes c = let pre = c.requires in
    let put-constraints = c.put_constraints-circuits.ensures in
    omega (arith, (circuits_few _ _ _ _ _ _ _ _ pre _ _ _ put-constraints).0)

pub write_function_body-body-requires : goal.write_function_body-body-requires
write_function_body-body-requires c = let pre = c.requires in
    let put-constraints = c.put_constraints-circuits.ensures in
    body_ready _ _ _ _ _ _ _ _ pre _ _ _ put-constraints _ refl

pub overflow_add-result : goal.overflow_add-result
overflow_add-result c = let pre = c.requires in
    let put-constraints = c.put_constraints-circuits.ensures in
    let write-function-body = c.write_function_body-body.ensures in
    let whole = function_put _ _ _ _ _ _ _ _ pre _ _ _ put-constraints _ _ write-function-body in
    omega (arith, whole.nodes, pre.constraints.logged.room.nodes)

pub returns : goal.returns
returns c = let pre = c.requires in
    let put-constraints = c.put_constraints-circuits.ensures in
    let write-function-body = c.write_function_body-body.ensures in
    function_put _ _ _ _ _ _ _ _ pre _ _ _ put-constraints _ _ write-function-body
