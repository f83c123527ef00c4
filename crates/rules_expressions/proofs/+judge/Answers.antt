use Rattle.kit.specs.Names.{arith, rules}
use Rattle.theory_trees.proofs.ByKind.{key_below, operands_below, part_below, revealed_below}
use Rattle.rules_scopes.proofs.Nodes.{node_reads}
use Rattle.rules_scopes.proofs.Named.{field_there, mapping_there, target_listed, target_there}
use Rattle.rules_scopes.proofs.Slices.{ready_with}
use Rattle.rules_expressions.proofs.Judging as kinds
use Rattle.rules_expressions.proofs.+judge.Goals as goal

pub read_node-node-requires : goal.read_node-node-requires
read_node-node-requires t c = (c.requires.0, c.args.slices.now.ready.bodies.few)

pub mark-requires : goal.mark-requires
mark-requires t c = omega (arith, c.requires.0, c.requires.2)

pub field_from-requires : goal.field_from-requires
field_from-requires t c = let ready = ready_with c.args.slices.now c.requires.1 in let inside = c.requires.0 in (ready.declared, field_there _ _ ready.bodies _ inside _ c.read_node-node.ensures c.in-3.is)

pub field_judged-requires : goal.field_judged-requires
field_judged-requires t c = let ready = ready_with c.args.slices.now c.requires.1 in let inside = c.requires.0 in let there = field_there _ _ ready.bodies _ inside _ c.read_node-node.ensures c.in-3.is in
    (omega (arith, there, ready.declared.few), kinds.place_class _ _ _ c.args.classes.now ready _ _ 0 c.field_from.ensures (omega (arith, kinds.enough _ _ _ c.args.classes.now ready)))

pub mark-requires-in-3 : goal.mark-requires-in-3
mark-requires-in-3 t c = omega (arith, c.requires.0, c.requires.2)

pub judge-key-requires : goal.judge-key-requires
judge-key-requires t c = let ready = ready_with c.args.slices.now c.requires.1 in let inside = c.requires.0 in let less = key_below (node_reads _ _ ready.bodies _ inside _ c.read_node-node.ensures) c.in-4.is in
    (omega (arith, c.requires.0, less), (omega (arith, inside, less), c.requires.1, c.requires.2))

pub field_from-requires-in-4 : goal.field_from-requires-in-4
field_from-requires-in-4 t c = let ready = ready_with c.args.slices.now c.requires.1 in let inside = c.requires.0 in (ready.declared, mapping_there _ _ ready.bodies _ inside _ c.read_node-node.ensures c.in-4.is)

pub entry_judged-requires : goal.entry_judged-requires
entry_judged-requires t c = let ready = ready_with c.args.slices.now c.requires.1 in let inside = c.requires.0 in kinds.place_class _ _ _ c.args.classes.now ready _ _ _ c.field_from-in-4.ensures c.judge-key.ensures.judged.name_listed

pub mark-requires-in-4 : goal.mark-requires-in-4
mark-requires-in-4 t c = omega (arith, c.requires.0, c.requires.2, kinds.marked_long c.judge-key.ensures)

pub parameter_from-given-requires : goal.parameter_from-given-requires
parameter_from-given-requires t c = c.args.slices.now.ready.given

pub parameter_judged-requires : goal.parameter_judged-requires
parameter_judged-requires t c = let ready = ready_with c.args.slices.now c.requires.1 in let inside = c.requires.0 in (c.parameter_from-given.ensures.present, kinds.enough _ _ _ c.args.classes.now ready)

pub mark-requires-in-5 : goal.mark-requires-in-5
mark-requires-in-5 t c = omega (arith, c.requires.0, c.requires.2)

pub judge-left-requires : goal.judge-left-requires
judge-left-requires t c = let ready = ready_with c.args.slices.now c.requires.1 in let inside = c.requires.0 in let less = (operands_below (node_reads _ _ ready.bodies _ inside _ c.read_node-node.ensures) c.in-6.is).0 in
    (omega (arith, c.requires.0, less), (omega (arith, inside, less), c.requires.1, c.requires.2))

pub judge-right-requires : goal.judge-right-requires
judge-right-requires t c = let ready = ready_with c.args.slices.now c.requires.1 in let inside = c.requires.0 in let less = (operands_below (node_reads _ _ ready.bodies _ inside _ c.read_node-node.ensures) c.in-6.is).1 in
    (omega (arith, c.requires.0, less), (omega (arith, inside, less), c.requires.1, omega (arith, c.requires.2, kinds.marked_long c.judge-left.ensures)))

pub operator_judged-requires : goal.operator_judged-requires
operator_judged-requires t c = let ready = ready_with c.args.slices.now c.requires.1 in let inside = c.requires.0 in (kinds.owner_class _ _ _ c.args.classes.now ready c.judge-left.ensures, kinds.owner_class _ _ _ c.args.classes.now ready c.judge-right.ensures)

pub mark-requires-in-6 : goal.mark-requires-in-6
mark-requires-in-6 t c = omega (arith, c.requires.0, c.requires.2, kinds.marked_long c.judge-left.ensures, kinds.marked_long c.judge-right.ensures)

pub judge-part-requires : goal.judge-part-requires
judge-part-requires t c = let ready = ready_with c.args.slices.now c.requires.1 in let inside = c.requires.0 in let less = part_below (node_reads _ _ ready.bodies _ inside _ c.read_node-node.ensures) c.in-7.is in
    (omega (arith, c.requires.0, less), (omega (arith, inside, less), c.requires.1, c.requires.2))

pub negation_judged-requires : goal.negation_judged-requires
negation_judged-requires t c = let ready = ready_with c.args.slices.now c.requires.1 in let inside = c.requires.0 in kinds.owner_class _ _ _ c.args.classes.now ready c.judge-part.ensures

pub mark-requires-in-7 : goal.mark-requires-in-7
mark-requires-in-7 t c = omega (arith, c.requires.0, c.requires.2, kinds.marked_long c.judge-part.ensures)

pub judge-part-requires-in-8 : goal.judge-part-requires-in-8
judge-part-requires-in-8 t c = let ready = ready_with c.args.slices.now c.requires.1 in let inside = c.requires.0 in let less = revealed_below (node_reads _ _ ready.bodies _ inside _ c.read_node-node.ensures) c.in-8.is in
    (omega (arith, c.requires.0, less), (omega (arith, inside, less), c.requires.1, c.requires.2))

pub target_number-target-requires : goal.target_number-target-requires
target_number-target-requires t c = let ready = ready_with c.args.slices.now c.requires.1 in let inside = c.requires.0 in target_listed _ _ ready.bodies _ inside _ c.read_node-node.ensures c.in-8.is

pub target_fits-fits-requires : goal.target_fits-fits-requires
target_fits-fits-requires t c = let ready = ready_with c.args.slices.now c.requires.1 in let inside = c.requires.0 in (ready.declared, ready.given, rw c.target_number-target.ensures (target_there _ _ ready.bodies _ inside _ c.read_node-node.ensures c.in-8.is))

pub reveal_judged-requires : goal.reveal_judged-requires
reveal_judged-requires t c = let ready = ready_with c.args.slices.now c.requires.1 in let inside = c.requires.0 in kinds.owner_class _ _ _ c.args.classes.now ready c.judge-part-in-8.ensures

pub mark-requires-in-8 : goal.mark-requires-in-8
mark-requires-in-8 t c = omega (arith, c.requires.0, c.requires.2, kinds.marked_long c.judge-part-in-8.ensures)

pub mark-requires-in_default : goal.mark-requires-in_default
mark-requires-in_default t c = omega (arith, c.requires.0, c.requires.2)

pub returns-in-1 : goal.returns-in-1
returns-in-1 t c = let ready = ready_with c.args.slices.now c.requires.1 in let inside = c.requires.0 in kinds.constant_judged_law _ _ _ c.args.classes.now ready _ inside _ c.read_node-node.ensures _ _ _ _ c.in-1.is c.constant_judged.ensures c.mark.ensures

pub returns-in-3 : goal.returns-in-3
returns-in-3 t c = let ready = ready_with c.args.slices.now c.requires.1 in let inside = c.requires.0 in kinds.field_judged_law _ _ _ c.args.classes.now ready _ inside _ c.read_node-node.ensures _ _ _ _ _ c.in-3.is c.field_from.ensures c.field_judged.ensures c.mark-in-3.ensures

pub returns-in-4 : goal.returns-in-4
returns-in-4 t c = let ready = ready_with c.args.slices.now c.requires.1 in let inside = c.requires.0 in kinds.entry_judged_law _ _ _ c.args.classes.now ready _ inside _ c.read_node-node.ensures _ _ _ _ _ _ c.judge-key.ensures c.mark-in-4.ensures _ c.in-4.is c.field_from-in-4.ensures c.entry_judged.ensures

pub returns-in-5 : goal.returns-in-5
returns-in-5 t c = let ready = ready_with c.args.slices.now c.requires.1 in let inside = c.requires.0 in kinds.parameter_judged_law _ _ _ c.args.classes.now ready _ inside _ c.read_node-node.ensures _ _ _ _ _ c.in-5.is c.parameter_from-given.ensures c.parameter_judged.ensures c.mark-in-5.ensures

pub returns-in-6 : goal.returns-in-6
returns-in-6 t c = let ready = ready_with c.args.slices.now c.requires.1 in let inside = c.requires.0 in kinds.operator_judged_law _ _ _ c.args.classes.now ready _ inside _ c.read_node-node.ensures _ _ _ _ _ _ _ _ c.in-6.is c.judge-left.ensures c.judge-right.ensures c.operator_judged.ensures c.mark-in-6.ensures

pub returns-in-7 : goal.returns-in-7
returns-in-7 t c = let ready = ready_with c.args.slices.now c.requires.1 in let inside = c.requires.0 in kinds.negation_judged_law _ _ _ c.args.classes.now ready _ inside _ c.read_node-node.ensures _ _ _ _ _ _ c.judge-part.ensures c.mark-in-7.ensures c.in-7.is c.negation_judged.ensures

pub returns-in-8 : goal.returns-in-8
returns-in-8 t c = let ready = ready_with c.args.slices.now c.requires.1 in let inside = c.requires.0 in kinds.reveal_judged_law _ _ _ c.args.classes.now ready _ inside _ c.read_node-node.ensures _ _ _ _ _ _ c.judge-part-in-8.ensures c.mark-in-8.ensures _ _ c.in-8.is c.target_number-target.ensures c.target_fits-fits.ensures c.reveal_judged.ensures

pub returns-in_default : goal.returns-in_default
returns-in_default t c = let ready = ready_with c.args.slices.now c.requires.1 in let inside = c.requires.0 in kinds.me_judged_law _ _ _ c.args.classes.now ready _ inside _ c.read_node-node.ensures _ _ _ _ (record { constant = (search rules); field = (search rules); entry = (search rules); parameter = (search rules); operator = (search rules); negation = (search rules); reveal = (search rules) }) c.me_judged.ensures c.mark-in_default.ensures
