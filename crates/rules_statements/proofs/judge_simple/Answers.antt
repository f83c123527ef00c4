-- Each kind from what its parts give.
use Rattle.kit.specs.Names.{arith, rules}
use Rattle.theory_trees.proofs.ByKind.{value_below, key_and_value_below, required_below}
use Rattle.rules_scopes.proofs.Nodes.{node_reads}
use Rattle.rules_scopes.proofs.Named.{put_there, entry_there}
use Rattle.rules_scopes.proofs.Slices.{ready_with}
use Rattle.rules_expressions.proofs.Judging as judging
use Rattle.rules_statements.proofs.Judged as judged
use Rattle.rules_statements.proofs.judge_simple.Goals as goal

pub judge-value-requires : goal.judge-value-requires
judge-value-requires c = let (inside, long, _, room, same, _, _) = c.requires in let ready = ready_with c.args.slices.now long in
    (omega (arith, inside, value_below (node_reads _ _ ready.bodies _ inside _ same) c.in-18.is), long, room)

pub field_from-requires : goal.field_from-requires
field_from-requires c = let (inside, long, _, _, same, _, _) = c.requires in let ready = ready_with c.args.slices.now long in
    (ready.declared, put_there _ _ ready.bodies _ inside _ same c.in-18.is)

pub field_fault-requires : goal.field_fault-requires
field_fault-requires c = let ready = ready_with c.args.slices.now c.requires.1 in (
  judging.place_class _ _ _ c.args.classes.now ready _ _ 0 c.field_from.ensures (omega (arith, judging.enough _ _ _ c.args.classes.now ready)),
  judging.owner_class _ _ _ c.args.classes.now ready c.judge-value.ensures,
)

pub judge-key-requires : goal.judge-key-requires
judge-key-requires c = let (inside, long, _, room, same, _, _) = c.requires in let ready = ready_with c.args.slices.now long in
    (omega (arith, inside, (key_and_value_below (node_reads _ _ ready.bodies _ inside _ same) c.in-19.is).0), long, room)

pub judge-value-requires-in-19 : goal.judge-value-requires-in-19
judge-value-requires-in-19 c = let (inside, long, _, room, same, _, _) = c.requires in let ready = ready_with c.args.slices.now long in (
  omega (arith, inside, (key_and_value_below (node_reads _ _ ready.bodies _ inside _ same) c.in-19.is).1),
  long,
  omega (arith, room, judging.marked_long c.judge-key.ensures),
)

pub field_from-requires-in-19 : goal.field_from-requires-in-19
field_from-requires-in-19 c = let (inside, long, _, _, same, _, _) = c.requires in let ready = ready_with c.args.slices.now long in
    (ready.declared, entry_there _ _ ready.bodies _ inside _ same c.in-19.is)

pub entry_put_fault-requires : goal.entry_put_fault-requires
entry_put_fault-requires c = let ready = ready_with c.args.slices.now c.requires.1 in (
  judging.place_class _ _ _ c.args.classes.now ready _ _ _ c.field_from-in-19.ensures c.judge-key.ensures.judged.name_listed,
  judging.owner_class _ _ _ c.args.classes.now ready c.judge-value-in-19.ensures,
)

pub condition_met-requires : goal.condition_met-requires
condition_met-requires c = let (inside, long, classed, room, same, _, _) = c.requires in let ready = ready_with c.args.slices.now long in
    (omega (arith, inside, required_below (node_reads _ _ ready.bodies _ inside _ same) c.in-20.is), long, classed, room)

pub returns-in-18 : goal.returns-in-18
returns-in-18 c = let (inside, long, classed, _, same, _, _) = c.requires in let ready = ready_with c.args.slices.now long in
    judged.field_judged_law _ _ _ _ _ ready _ inside _ same _ _ _ _ _ classed c.field_from.ensures c.outcome.ensures c.in-18.is
    c.judge-value.ensures c.field_fault.ensures

pub returns-in-19 : goal.returns-in-19
returns-in-19 c = let (inside, long, classed, _, same, _, _) = c.requires in let ready = ready_with c.args.slices.now long in
    judged.entry_judged_law _ _ _ _ _ ready _ inside _ same _ _ _ _ _ classed c.field_from-in-19.ensures c.outcome-in-19.ensures _ _ c.in-19.is
    c.judge-key.ensures c.judge-value-in-19.ensures c.entry_put_fault.ensures

pub returns-in-20 : goal.returns-in-20
returns-in-20 c = let (inside, long, _, _, same, _, _) = c.requires in let ready = ready_with c.args.slices.now long in
    judged.require_judged _ _ _ _ _ ready _ inside _ same _ _ _ c.in-20.is c.condition_met.ensures

pub returns-in_default : goal.returns-in_default
returns-in_default c = let (inside, long, classed, _, same, sequence, conditional) = c.requires in let ready = ready_with c.args.slices.now long in
    judged.skip_judged _ _ _ _ _ ready _ inside _ same _ classed
    (record { sequence = sequence; assign_field = (search rules); assign_entry = (search rules); require = (search rules); conditional = conditional }) c.outcome-in_default.ensures
