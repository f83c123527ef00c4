-- The expressions of the statement, by the kind of its node.
use Rattle.kit.specs.Names.{rules}
use Rattle.rewrite_simple_statements.proofs.Parts.{still_logged, assign_field_ready, assign_field_logged, entry_value_inside, assign_entry_ready, assign_entry_logged, require_ready, require_logged}
use Rattle.rewrite_simple_statements.proofs.parts_log.Goals as goal

pub assign_field_log-requires : goal.assign_field_log-requires
assign_field_log-requires c = let context = c.args.function.now.context in let (_, ready) = c.requires in
    let node_at_law = c.node_at-node.ensures in
    (node_at_law.small_arg, assign_field_ready _ _ _ context c.args.guard _ _ _ ready _ node_at_law.same c.in-18.is)

pub assign_entry_log-requires : goal.assign_entry_log-requires
assign_entry_log-requires c = let context = c.args.function.now.context in let (_, ready) = c.requires in
    let guard = c.args.guard in let node_at_law = c.node_at-node.ensures in
    let kind = c.in-19.is in
    ((node_at_law.small_arg, entry_value_inside _ _ _ context guard _ _ _ ready _ node_at_law.same kind), assign_entry_ready _ _ _ context guard _ _ _ ready _ node_at_law.same kind)

pub body_log-requires : goal.body_log-requires
body_log-requires c = let context = c.args.function.now.context in let (_, ready) = c.requires in
    require_ready _ _ _ context c.args.guard _ _ _ ready _ c.node_at-node.ensures.same c.in-20.is

pub returns-in-18 : goal.returns-in-18
returns-in-18 c = let context = c.args.function.now.context in let (_, ready) = c.requires in
    assign_field_logged _ _ _ context c.args.guard _ _ _ ready _ c.node_at-node.ensures.same c.in-18.is _ _ c.assign_field_log.ensures

pub returns-in-19 : goal.returns-in-19
returns-in-19 c = let context = c.args.function.now.context in let (_, ready) = c.requires in
    assign_entry_logged _ _ _ context c.args.guard _ _ _ ready _ c.node_at-node.ensures.same c.in-19.is _ _ c.assign_entry_log.ensures

pub returns-in-20 : goal.returns-in-20
returns-in-20 c = let context = c.args.function.now.context in let (_, ready) = c.requires in
    require_logged _ _ _ context c.args.guard _ _ _ ready _ c.node_at-node.ensures.same c.in-20.is _ _ c.body_log.ensures

pub returns-in_default : goal.returns-in_default
returns-in_default c = let context = c.args.function.now.context in let (simple, ready) = c.requires in still_logged _ _ _ context c.args.guard _ _ _ ready _ c.node_at-node.ensures.same simple (search rules) (search rules) (search rules)
