-- `honest_statements::simple_slots` meets its contract, kind by kind.
use Rattle.kit.specs.Names.{arith, rules}
use Rattle.theory_trees.proofs.ByKind.{still_is, assign_field_is, assign_entry_is, require_is, value_below, key_and_value_below, required_below}
use Rattle.file_accepted.proofs.Nodes.{node_reads}
use Rattle.honest_statements.proofs.Steps.{simple_as, skip_honest, require_honest, require_room, field_honest, field_room, entry_honest, entry_room}
use Rattle.honest_statements.proofs.simple_slots.Goals as goal

pub field_slots-requires : goal.field_slots-requires
field_slots-requires c = let (_, startable) = c.requires in let context = c.args.function.now.context in
    let node_at_law = c.node_at-node.ensures in let match-keys1 = c.in-18.is in
    let less = value_below (node_reads _ _ _ context _ startable.inside _ node_at_law.same) match-keys1 in
    record { small_field = node_at_law.small_arg; inside = omega (arith, startable.inside, less); room = field_room _ _ _ _ _ _ _ _ _ _ _ (assign_field_is (node_reads _ _ _ context _ startable.inside _ node_at_law.same) match-keys1) startable.space }

pub entry_slots-requires : goal.entry_slots-requires
entry_slots-requires c = let (_, startable) = c.requires in let context = c.args.function.now.context in
    let node_at_law = c.node_at-node.ensures in let match-keys2 = c.in-19.is in
    let less = key_and_value_below (node_reads _ _ _ context _ startable.inside _ node_at_law.same) match-keys2 in
    record { small_field = node_at_law.small_arg; key_inside = omega (arith, startable.inside, less.0); inside = omega (arith, startable.inside, less.1); room = entry_room _ _ _ _ _ _ _ _ _ _ _ _ (assign_entry_is (node_reads _ _ _ context _ startable.inside _ node_at_law.same) match-keys2) startable.space }

pub body_slots-requires : goal.body_slots-requires
body_slots-requires c = let (_, startable) = c.requires in let context = c.args.function.now.context in
    let node-at-same = c.node_at-node.ensures.same in let match-keys3 = c.in-20.is in
    let less = required_below (node_reads _ _ _ context _ startable.inside _ node-at-same) match-keys3 in
    record { inside = omega (arith, startable.inside, less); room = require_room _ _ _ _ _ _ _ _ _ _ (require_is (node_reads _ _ _ context _ startable.inside _ node-at-same) match-keys3) startable.space }

pub returns-in-18 : goal.returns-in-18
returns-in-18 c = let (_, startable) = c.requires in let context = c.args.function.now.context in
    let node-at-same = c.node_at-node.ensures.same in
    let match-keys1 = c.in-18.is in
    let field-slots = c.field_slots.ensures in
    field_honest _ _ _ _ _ _ _ _ _ _ _ _ _ _ (assign_field_is (node_reads _ _ _ context _ startable.inside _ node-at-same) match-keys1) field-slots.0 field-slots.1

pub returns-in-19 : goal.returns-in-19
returns-in-19 c = let (_, startable) = c.requires in let context = c.args.function.now.context in
    let node-at-same = c.node_at-node.ensures.same in
    let match-keys2 = c.in-19.is in
    let entry-slots = c.entry_slots.ensures in
    entry_honest _ _ _ _ _ _ _ _ _ _ _ _ _ _ _ (assign_entry_is (node_reads _ _ _ context _ startable.inside _ node-at-same) match-keys2) entry-slots.0 entry-slots.1

pub returns-in-20 : goal.returns-in-20
returns-in-20 c = let (_, startable) = c.requires in let context = c.args.function.now.context in
    let node-at-same = c.node_at-node.ensures.same in
    let match-keys3 = c.in-20.is in
    require_honest _ _ _ _ _ _ _ _ _ _ _ _ (require_is (node_reads _ _ _ context _ startable.inside _ node-at-same) match-keys3) c.body_slots.ensures

pub returns-in_default : goal.returns-in_default
returns-in_default c = let (simple-kind, startable) = c.requires in let context = c.args.function.now.context in
    let node-at-same = c.node_at-node.ensures.same in let simple = simple_as _ _ node-at-same simple-kind in
    skip_honest _ _ _ _ _ _ _ _ _ (still_is (node_reads _ _ _ context _ startable.inside _ node-at-same) (record { sequence = simple.sequence; assign_field = (search rules); assign_entry = (search rules); require = (search rules); conditional = simple.conditional }))
