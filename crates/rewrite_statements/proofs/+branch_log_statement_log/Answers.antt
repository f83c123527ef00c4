use Rattle.kit.specs.Names.{◌∙◌, arith, rules}
use Rattle.rewrite_statements.proofs.Statements.{others_ready, steps_less, first_ready, second_ready, sequence_logged, branches_less, condition_ready, then_ready, else_ready, conditional_logged, guard_slot, guard_small, inside_ready, branch_done}
use Rattle.rewrite_statements.proofs.+branch_log_statement_log.Goals as goal

pub branch_log-log_entry-q-requires : goal.branch_log-log_entry-q-requires
branch_log-log_entry-q-requires t c = let ready = c.requires in (guard_slot _ _ _ _ _ ready, guard_small _ _ _ _ _ ready)

pub branch_log-overflow_add-variable : goal.branch_log-overflow_add-variable
branch_log-overflow_add-variable t c = let ready = c.requires in omega (arith, (guard_slot _ _ _ _ _ ready).few)

pub branch_log-overflow_cast-variable : goal.branch_log-overflow_cast-variable
branch_log-overflow_cast-variable t c = let ready = c.requires in omega (arith, (guard_slot _ _ _ _ _ ready).few)

pub branch_log-statement_log-requires : goal.branch_log-statement_log-requires
branch_log-statement_log-requires t c = let ready = c.requires in
    (omega arith, inside_ready _ _ _ _ _ ready _ _ c.log_entry-q.ensures)

pub branch_log-shape_of-log : goal.branch_log-shape_of-log
branch_log-shape_of-log t c = c.statement_log.auto.log ∙ c.log_entry-q.auto.log

pub branch_log-returns : goal.branch_log-returns
branch_log-returns t c = let ready = c.requires in
    let log-entry = c.log_entry-q.ensures in
    branch_done _ _ _ _ _ ready _ _ log-entry _ _ c.statement_log.ensures

pub statement_log-node_at-node-requires : goal.statement_log-node_at-node-requires
statement_log-node_at-node-requires t c = let context = c.args.function.now.context in
    let ready = c.requires in (context.narrow, omega (arith, ready.inside, context.long))

pub statement_log-statement_log-q-requires : goal.statement_log-statement_log-q-requires
statement_log-statement_log-q-requires t c = let context = c.args.function.now.context in
    let guard = c.args.guard in let ready = c.requires in
    let same = c.node_at-node.ensures.same in let kind = c.in-17.is in
    let less = steps_less _ _ _ context guard _ _ _ ready _ same kind in
    (omega arith, first_ready _ _ _ context guard _ _ _ ready _ same kind)

pub statement_log-statement_log-requires : goal.statement_log-statement_log-requires
statement_log-statement_log-requires t c = let context = c.args.function.now.context in
    let guard = c.args.guard in let ready = c.requires in
    let same = c.node_at-node.ensures.same in let kind = c.in-17.is in
    let less = steps_less _ _ _ context guard _ _ _ ready _ same kind in
    (omega arith, second_ready _ _ _ context guard _ _ _ ready _ same kind _ _ c.statement_log-q.ensures)

pub statement_log-condition_log-q-requires : goal.statement_log-condition_log-q-requires
statement_log-condition_log-q-requires t c = let context = c.args.function.now.context in let ready = c.requires in
    condition_ready _ _ _ context c.args.guard _ _ _ ready _ c.node_at-node.ensures.same c.in-21.is

pub statement_log-branch_log-r-requires : goal.statement_log-branch_log-r-requires
statement_log-branch_log-r-requires t c = let context = c.args.function.now.context in let guard = c.args.guard in let ready = c.requires in
    let same = c.node_at-node.ensures.same in let kind = c.in-21.is in
    let less = branches_less _ _ _ context guard _ _ _ ready _ same kind in
    (omega arith, then_ready _ _ _ context guard _ _ _ ready _ same kind _ _ c.condition_log-q.ensures)

pub statement_log-branch_log-requires : goal.statement_log-branch_log-requires
statement_log-branch_log-requires t c = let context = c.args.function.now.context in let guard = c.args.guard in let ready = c.requires in
    let same = c.node_at-node.ensures.same in let kind = c.in-21.is in
    let less = branches_less _ _ _ context guard _ _ _ ready _ same kind in
    (omega arith, else_ready _ _ _ context guard _ _ _ ready _ same kind _ _ c.condition_log-q.ensures _ _ c.branch_log-r.ensures)

pub statement_log-simple_log-requires : goal.statement_log-simple_log-requires
statement_log-simple_log-requires t c = let context = c.args.function.now.context in
    let ready = c.requires in others_ready _ _ _ context c.args.guard _ _ _ ready _ c.node_at-node.ensures.same (search rules) (search rules)

pub statement_log-shape_of-log-in-17 : goal.statement_log-shape_of-log-in-17
statement_log-shape_of-log-in-17 t c = c.statement_log.auto.log ∙ c.statement_log-q.auto.log

pub statement_log-returns-in-17 : goal.statement_log-returns-in-17
statement_log-returns-in-17 t c = let context = c.args.function.now.context in let args-guard = c.args.guard in let ready = c.requires in
    let node-at-same = c.node_at-node.ensures.same in
    let match-keys1 = c.in-17.is in
    let statement-log-2 = c.statement_log-q.ensures in
    sequence_logged _ _ _ context args-guard _ _ _ ready _ node-at-same match-keys1 _ _ statement-log-2 _ _ c.statement_log.ensures

pub statement_log-shape_of-log-in-21 : goal.statement_log-shape_of-log-in-21
statement_log-shape_of-log-in-21 t c = c.branch_log.auto.log ∙ c.branch_log-r.auto.log ∙ c.condition_log-q.auto.log

pub statement_log-returns-in-21 : goal.statement_log-returns-in-21
statement_log-returns-in-21 t c = let context = c.args.function.now.context in let guard = c.args.guard in let ready = c.requires in
    let same = c.node_at-node.ensures.same in let kind = c.in-21.is in
    conditional_logged _ _ _ context guard _ _ _ ready _ same kind _ _
    c.condition_log-q.ensures _ _ c.branch_log-r.ensures _ _ c.branch_log.ensures

pub statement_log-shape_of-log-in_default : goal.statement_log-shape_of-log-in_default
statement_log-shape_of-log-in_default t c = c.simple_log.auto.log

pub statement_log-returns-in_default : goal.statement_log-returns-in_default
statement_log-returns-in_default t c = c.simple_log.ensures
