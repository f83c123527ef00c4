use Rattle.kit.specs.Names.{arith}
use Rattle.rules_scopes.proofs.Nodes.{read_five}
use Rattle.rules_nodes.proofs.read_node.Goals as goal

pub overflow_mul-at : goal.overflow_mul-at
overflow_mul-at c = omega arith

pub short_from-requires : goal.short_from-requires
short_from-requires c = omega arith

pub overflow_add-at : goal.overflow_add-at
overflow_add-at c = omega arith

pub short_from-requires-2 : goal.short_from-requires-2
short_from-requires-2 c = omega arith

pub overflow_add-at-2 : goal.overflow_add-at-2
overflow_add-at-2 c = omega arith

pub number_from-requires : goal.number_from-requires
number_from-requires c = omega arith

pub overflow_add-at-3 : goal.overflow_add-at-3
overflow_add-at-3 c = omega arith

pub number_from-requires-2 : goal.number_from-requires-2
number_from-requires-2 c = omega arith

pub overflow_add-at-4 : goal.overflow_add-at-4
overflow_add-at-4 c = omega arith

pub number_from-requires-3 : goal.number_from-requires-3
number_from-requires-3 c = omega arith

pub returns : goal.returns
returns c = read_five c.args.nodes.now c.args.n _ _ _ _ _ c.short_from.ensures
    c.short_from-2.ensures c.number_from.ensures.value c.number_from-2.ensures.value
    c.number_from-3.ensures.value
