use Rattle.kit.specs.Names.{refl, ap, sym, arith, not-true, not-false, rules}
use Rattle.definitions.specs.Basics.{is_true}
use Rattle.theory_trees.proofs.ByKind.{still_is, sequence_is, conditional_is, steps_below, branches_below}
use Rattle.file_accepted.proofs.Nodes.{node_reads}
use Rattle.honest_values.proofs.ValuesByKind.{kind_as}
use Rattle.disclose_expressions.proofs.ExpressionsByKind.{value_here}
use Rattle.disclose_statements.proofs.StatementsByKind.{branch_in, branch_below, expression_ready, statement_ready, skip_disclosed}
use Rattle.disclose_statements.proofs.StatementsByKind.{condition_stopped, condition_room, branch_room, conditional_disclosed}
use Rattle.disclose_statements.proofs.StatementsByKind.{first_stopped, one_room, two_room, sequence_disclosed}
use Rattle.disclose_statements.proofs.+disclose_conditional_disclose_sequence_disclose_statement.Goals as goal

pub disclose_conditional-node_at-node-requires : goal.disclose_conditional-node_at-node-requires
disclose_conditional-node_at-node-requires t c =
    let (_, ready) = c.requires in (c.args.function.now.context.narrow, omega (arith, c.args.function.now.context.long, ready.inside))

pub disclose_conditional-value_asked-condition-requires : goal.disclose_conditional-value_asked-condition-requires
disclose_conditional-value_asked-condition-requires t c = let (kind-at-is, ready) = c.requires in
    let same = c.node_at-node.ensures.same in
    let read = node_reads _ _ _ c.args.function.now.context _ ready.inside _ same in
    let kind = kind_as _ _ _ same kind-at-is in
    let less = branches_below read kind in omega (arith, ready.inside, less.0)

pub disclose_conditional-branch_of-branch-requires : goal.disclose_conditional-branch_of-branch-requires
disclose_conditional-branch_of-branch-requires t c = tt

pub disclose_conditional-disclose_expression-told-requires : goal.disclose_conditional-disclose_expression-told-requires
disclose_conditional-disclose_expression-told-requires t c =
    let (kind-at-is, ready) = c.requires in let same = c.node_at-node.ensures.same in
    let read = node_reads _ _ _ c.args.function.now.context _ ready.inside _ same in
    let kind = kind_as _ _ _ same kind-at-is in let less = branches_below read kind in
    let chosen = branch_in c.args.function.now.file.now _ _ _ _ c.branch_of-branch.ensures in
    let known = ap is_true (value_here _ _ _ _ _ _ _ ready.called c.value_asked-condition.ensures) in
    expression_ready _ _ _ _ _ _ _ _ _ _ ready less.0 (condition_room _ _ _ _ _ _ _ _ _ _
    (conditional_is read kind) _ known chosen c.args.out.now _ ready.room)

pub disclose_conditional-returns-then-not-told : goal.disclose_conditional-returns-then-not-told
disclose_conditional-returns-then-not-told t c = let (kind-at-is, ready) = c.requires in
    let same = c.node_at-node.ensures.same in
    let read = node_reads _ _ _ c.args.function.now.context _ ready.inside _ same in
    let kind = kind_as _ _ _ same kind-at-is in
    let chosen = branch_in c.args.function.now.file.now _ _ _ _ c.branch_of-branch.ensures in
    let known = ap is_true (value_here _ _ _ _ _ _ _ ready.called c.value_asked-condition.ensures) in
    condition_stopped _ _ _ _ _ _ _ _ _ _ (conditional_is read kind) _ known chosen _ _ _ _ _
    (not-true _ c.if-not-told.true) c.disclose_expression-told.ensures

pub disclose_conditional-disclose_statement-requires : goal.disclose_conditional-disclose_statement-requires
disclose_conditional-disclose_statement-requires t c = let (kind-at-is, ready) = c.requires in
    let same = c.node_at-node.ensures.same in
    let read = node_reads _ _ _ c.args.function.now.context _ ready.inside _ same in
    let kind = kind_as _ _ _ same kind-at-is in let less = branches_below read kind in
    let chosen = branch_in c.args.function.now.file.now _ _ _ _ c.branch_of-branch.ensures in
    let known = ap is_true (value_here _ _ _ _ _ _ _ ready.called c.value_asked-condition.ensures) in
    let node = c.node_at-node.result in
    let taken = is_true c.value_asked-condition.result in
    let lower = branch_below _ taken _ node.second node.third c.branch_of-branch.ensures less.1.0 less.1.1 in (
      omega (arith, c.decreases, lower),
      statement_ready _ _ _ _ _ _ _ _ _ _ _ ready lower
          (branch_room _ _ _ _ _ _ _ _ _ _ (conditional_is read kind) _ known chosen _ _ ready.room _ _ c.disclose_expression-told.ensures
          (not-false _ c.if-not-told.false)),
    )

pub disclose_conditional-returns : goal.disclose_conditional-returns
disclose_conditional-returns t c = let (kind-at-is, ready) = c.requires in
    let same = c.node_at-node.ensures.same in
    let read = node_reads _ _ _ c.args.function.now.context _ ready.inside _ same in
    let kind = kind_as _ _ _ same kind-at-is in
    let chosen = branch_in c.args.function.now.file.now _ _ _ _ c.branch_of-branch.ensures in
    let known = ap is_true (value_here _ _ _ _ _ _ _ ready.called c.value_asked-condition.ensures) in
    conditional_disclosed _ _ _ _ _ _ _ _ _ _ (conditional_is read kind) _ known chosen _ _ ready.room _ _
    c.disclose_expression-told.ensures (not-false _ c.if-not-told.false) _ _ _ c.disclose_statement.ensures

pub disclose_sequence-node_at-node-requires : goal.disclose_sequence-node_at-node-requires
disclose_sequence-node_at-node-requires t c =
    let (_, ready) = c.requires in (c.args.function.now.context.narrow, omega (arith, c.args.function.now.context.long, ready.inside))

pub disclose_sequence-disclose_statement-first-requires : goal.disclose_sequence-disclose_statement-first-requires
disclose_sequence-disclose_statement-first-requires t c = let (kind-at-is, ready) = c.requires in
    let same = c.node_at-node.ensures.same in
    let read = node_reads _ _ _ c.args.function.now.context _ ready.inside _ same in
    let kind = kind_as _ _ _ same kind-at-is in
    let less = steps_below read kind in (
      omega (arith, c.decreases, less.0),
      statement_ready _ _ _ _ _ _ _ _ _ _ _ ready less.0
          (one_room _ _ _ _ _ _ _ _ (sequence_is read kind) c.args.out.now _ ready.room),
    )

pub disclose_sequence-returns-then-not-first : goal.disclose_sequence-returns-then-not-first
disclose_sequence-returns-then-not-first t c = let (kind-at-is, ready) = c.requires in
    let same = c.node_at-node.ensures.same in
    let read = node_reads _ _ _ c.args.function.now.context _ ready.inside _ same in
    let kind = kind_as _ _ _ same kind-at-is in
    first_stopped _ _ _ _ _ _ _ _ (sequence_is read kind) _ _ _ _ _ (not-true _ c.if-not-first.true) c.disclose_statement-first.ensures

pub disclose_sequence-disclose_statement-requires : goal.disclose_sequence-disclose_statement-requires
disclose_sequence-disclose_statement-requires t c = let (kind-at-is, ready) = c.requires in
    let same = c.node_at-node.ensures.same in
    let read = node_reads _ _ _ c.args.function.now.context _ ready.inside _ same in
    let kind = kind_as _ _ _ same kind-at-is in let less = steps_below read kind in (
      omega (arith, c.decreases, less.1),
      statement_ready _ _ _ _ _ _ _ _ _ _ _ ready less.1
          (two_room _ _ _ _ _ _ _ _ (sequence_is read kind) _ _ ready.room _ _ _ c.disclose_statement-first.ensures
          (not-false _ c.if-not-first.false)),
    )

pub disclose_sequence-returns : goal.disclose_sequence-returns
disclose_sequence-returns t c = let (kind-at-is, ready) = c.requires in
    let same = c.node_at-node.ensures.same in
    let read = node_reads _ _ _ c.args.function.now.context _ ready.inside _ same in
    let kind = kind_as _ _ _ same kind-at-is in
    sequence_disclosed _ _ _ _ _ _ _ _ (sequence_is read kind) _ _ ready.room _ _ _ c.disclose_statement-first.ensures
    (not-false _ c.if-not-first.false) _ _ _ c.disclose_statement.ensures

pub disclose_statement-node_at-node-requires : goal.disclose_statement-node_at-node-requires
disclose_statement-node_at-node-requires t c =
    let ready = c.requires in (c.args.function.now.context.narrow, omega (arith, c.args.function.now.context.long, ready.inside))

pub disclose_statement-disclose_sequence-requires : goal.disclose_statement-disclose_sequence-requires
disclose_statement-disclose_sequence-requires t c = let ready = c.requires in
    (omega (arith, c.decreases), (kind_as _ _ _ (sym c.node_at-node.ensures.same) c.in-17.is, ready))

pub disclose_statement-disclose_field-requires : goal.disclose_statement-disclose_field-requires
disclose_statement-disclose_field-requires t c = let ready = c.requires in
    (kind_as _ _ _ (sym c.node_at-node.ensures.same) c.in-18.is, ready)

pub disclose_statement-disclose_entry-requires : goal.disclose_statement-disclose_entry-requires
disclose_statement-disclose_entry-requires t c = let ready = c.requires in
    (kind_as _ _ _ (sym c.node_at-node.ensures.same) c.in-19.is, ready)

pub disclose_statement-disclose_require-requires : goal.disclose_statement-disclose_require-requires
disclose_statement-disclose_require-requires t c = let ready = c.requires in
    (kind_as _ _ _ (sym c.node_at-node.ensures.same) c.in-20.is, ready)

pub disclose_statement-disclose_conditional-requires : goal.disclose_statement-disclose_conditional-requires
disclose_statement-disclose_conditional-requires t c = let ready = c.requires in
    (omega (arith, c.decreases), (kind_as _ _ _ (sym c.node_at-node.ensures.same) c.in-21.is, ready))

pub disclose_statement-returns-in-17 : goal.disclose_statement-returns-in-17
disclose_statement-returns-in-17 t c = c.disclose_sequence.ensures

pub disclose_statement-returns-in-18 : goal.disclose_statement-returns-in-18
disclose_statement-returns-in-18 t c = c.disclose_field.ensures

pub disclose_statement-returns-in-19 : goal.disclose_statement-returns-in-19
disclose_statement-returns-in-19 t c = c.disclose_entry.ensures

pub disclose_statement-returns-in-20 : goal.disclose_statement-returns-in-20
disclose_statement-returns-in-20 t c = c.disclose_require.ensures

pub disclose_statement-returns-in-21 : goal.disclose_statement-returns-in-21
disclose_statement-returns-in-21 t c = c.disclose_conditional.ensures

pub disclose_statement-returns-in_default : goal.disclose_statement-returns-in_default
disclose_statement-returns-in_default t c =
    let ready = c.requires in skip_disclosed _ _ _ _ _ _ (still_is
    (node_reads _ _ _ c.args.function.now.context _ ready.inside _ c.node_at-node.ensures.same)
    (record {
      sequence = (search rules);
      assign_field = (search rules);
      assign_entry = (search rules);
      require =
          (search rules);
      conditional = (search rules);
    })) _ _ _ refl refl
