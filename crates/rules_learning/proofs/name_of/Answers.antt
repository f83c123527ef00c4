use Rattle.kit.specs.Names.{inl, inr, arith, rules}
use Rattle.rules_scopes.proofs.Named.{field_there}
use Rattle.rules_learning.proofs.Names as kinds
use Rattle.rules_learning.proofs.name_of.Goals as goal

pub read_node-node-requires : goal.read_node-node-requires
read_node-node-requires c = (c.requires, c.args.slices.now.ready.bodies.few)

pub field_from-requires : goal.field_from-requires
field_from-requires c = (c.args.slices.now.ready.declared, field_there _ _ c.args.slices.now.ready.bodies _ c.requires _ c.read_node-node.ensures c.in-3.is)

pub final_name-requires : goal.final_name-requires
final_name-requires c = omega (arith, c.args.slices.now.ready.declared.few, field_there _ _ c.args.slices.now.ready.bodies _ c.requires _ c.read_node-node.ensures c.in-3.is)

pub returns-in-3 : goal.returns-in-3
returns-in-3 c = let given = kinds.field_named _ _ _ c.args.slices.now.ready _ c.requires _ c.read_node-node.ensures _ _ c.in-3.is c.field_from.ensures c.final_name.ensures in record { n_value = given.0; upper_bound = given.1 }

pub returns-in-5 : goal.returns-in-5
returns-in-5 c = let given = kinds.parameter_named _ _ _ c.args.slices.now.ready _ c.requires _ c.read_node-node.ensures _ _ c.in-5.is c.parameter_from.ensures c.argument_name.ensures in record { n_value = given.0; upper_bound = given.1 }

pub returns-in-1 : goal.returns-in-1
returns-in-1 c = let given = kinds.nothing_named _ _ _ c.args.slices.now.ready _ c.requires _ c.read_node-node.ensures (inl c.in-1.is) in record { n_value = given.0; upper_bound = given.1 }

pub returns-in-4 : goal.returns-in-4
returns-in-4 c = let given = kinds.nothing_named _ _ _ c.args.slices.now.ready _ c.requires _ c.read_node-node.ensures (inr c.in-4.is) in record { n_value = given.0; upper_bound = given.1 }

pub returns-in_default : goal.returns-in_default
returns-in_default c = let given = kinds.me_named _ _ _ c.args.slices.now.ready _ c.requires _ c.read_node-node.ensures (search rules) (search rules) (search rules) (search rules) in record { n_value = given.0; upper_bound = given.1 }
