use Rattle.kit.specs.Names.{refl, sym, ◌∙◌, arith, not-true, not-false, rules}
use Rattle.theory_trees.proofs.ByKind.{entry_is, operator_is, negation_is, reveal_is, key_below, part_below, revealed_below, operands_below}
use Rattle.file_accepted.proofs.Nodes.{node_reads}
use Rattle.honest_values.proofs.ValuesByKind.{kind_as}
use Rattle.disclose_expressions.proofs.ExpressionsByKind.{value_here, ready_part, entry_like, negation_like, like_room, like_disclosed, silent_is, silent_disclosed}
use Rattle.disclose_expressions.proofs.ExpressionsByKind.{left_stopped, left_room, right_room, right_stopped, operator_disclosed}
use Rattle.disclose_expressions.proofs.ExpressionsByKind.{part_stopped, reveal_hidden, part_room, value_room, reveal_disclosed}
use Rattle.disclose_expressions.proofs.+disclose_expression_disclose_operator_disclose_reveal.Goals as goal

pub disclose_expression-node_at-node-requires : goal.disclose_expression-node_at-node-requires
disclose_expression-node_at-node-requires t c =
    let ready = c.requires in (c.args.function.now.context.narrow, omega (arith, c.args.function.now.context.long, ready.inside))

pub disclose_expression-disclose_expression-requires : goal.disclose_expression-disclose_expression-requires
disclose_expression-disclose_expression-requires t c = let ready = c.requires in
    let same = c.node_at-node.ensures.same in
    let read = node_reads _ _ _ c.args.function.now.context _ ready.inside _ same in
    let kind = c.in-4.is in
    let less = key_below read kind in (
      omega (arith, c.decreases, less),
      ready_part _ _ _ _ _ _ _ _ _ _ ready less
          (like_room _ _ _ _ _ _ _ c.args.out.now _ (entry_like _ _ _ _ _ _ _ _ (entry_is read kind)) ready.room),
    )

pub disclose_expression-disclose_operator-requires : goal.disclose_expression-disclose_operator-requires
disclose_expression-disclose_operator-requires t c = let ready = c.requires in
    (omega (arith, c.decreases), (kind_as _ _ _ (sym c.node_at-node.ensures.same) c.in-6.is, ready))

pub disclose_expression-disclose_expression-requires-in-7 : goal.disclose_expression-disclose_expression-requires-in-7
disclose_expression-disclose_expression-requires-in-7 t c = let ready = c.requires in
    let same = c.node_at-node.ensures.same in
    let read = node_reads _ _ _ c.args.function.now.context _ ready.inside _ same in
    let kind = c.in-7.is in
    let less = part_below read kind in (
      omega (arith, c.decreases, less),
      ready_part _ _ _ _ _ _ _ _ _ _ ready less
          (like_room _ _ _ _ _ _ _ c.args.out.now _ (negation_like _ _ _ _ _ _ _ (negation_is read kind)) ready.room),
    )

pub disclose_expression-disclose_reveal-requires : goal.disclose_expression-disclose_reveal-requires
disclose_expression-disclose_reveal-requires t c = let ready = c.requires in
    (omega (arith, c.decreases), (kind_as _ _ _ (sym c.node_at-node.ensures.same) c.in-8.is, ready))

pub disclose_expression-returns-in-4 : goal.disclose_expression-returns-in-4
disclose_expression-returns-in-4 t c = let ready = c.requires in
    let same = c.node_at-node.ensures.same in
    let read = node_reads _ _ _ c.args.function.now.context _ ready.inside _ same in
    let kind = c.in-4.is in
    like_disclosed _ _ _ _ _ _ _ _ _ _ _ (entry_like _ _ _ _ _ _ _ _ (entry_is read kind)) c.disclose_expression.ensures

pub disclose_expression-returns-in-6 : goal.disclose_expression-returns-in-6
disclose_expression-returns-in-6 t c = c.disclose_operator.ensures

pub disclose_expression-returns-in-7 : goal.disclose_expression-returns-in-7
disclose_expression-returns-in-7 t c = let ready = c.requires in
    let same = c.node_at-node.ensures.same in
    let read = node_reads _ _ _ c.args.function.now.context _ ready.inside _ same in
    let kind = c.in-7.is in
    like_disclosed _ _ _ _ _ _ _ _ _ _ _ (negation_like _ _ _ _ _ _ _ (negation_is read kind)) c.disclose_expression-in-7.ensures

pub disclose_expression-returns-in-8 : goal.disclose_expression-returns-in-8
disclose_expression-returns-in-8 t c = c.disclose_reveal.ensures

pub disclose_expression-returns-in_default : goal.disclose_expression-returns-in_default
disclose_expression-returns-in_default t c =
    let ready = c.requires in silent_disclosed _ _ _ _ _ _ _ _ _ refl refl
    (silent_is _ _ _ _ _ _ _ c.args.function.now.context _ ready.inside _ c.node_at-node.ensures.same (search rules) (search rules)
    (search rules) (search rules))

pub disclose_operator-node_at-node-requires : goal.disclose_operator-node_at-node-requires
disclose_operator-node_at-node-requires t c =
    let (_, ready) = c.requires in (c.args.function.now.context.narrow, omega (arith, c.args.function.now.context.long, ready.inside))

pub disclose_operator-disclose_expression-left-requires : goal.disclose_operator-disclose_expression-left-requires
disclose_operator-disclose_expression-left-requires t c = let (kind-at-is, ready) = c.requires in
    let same = c.node_at-node.ensures.same in
    let read = node_reads _ _ _ c.args.function.now.context _ ready.inside _ same in
    let kind = kind_as _ _ _ same kind-at-is in
    let less = operands_below read kind in (
      omega (arith, c.decreases, less.0),
      ready_part _ _ _ _ _ _ _ _ _ _ ready less.0
          (left_room _ _ _ _ _ _ _ _ _ (operator_is read kind) c.args.out.now _ ready.room),
    )

pub disclose_operator-returns-then-not-left : goal.disclose_operator-returns-then-not-left
disclose_operator-returns-then-not-left t c = let (kind-at-is, ready) = c.requires in
    let same = c.node_at-node.ensures.same in
    let read = node_reads _ _ _ c.args.function.now.context _ ready.inside _ same in
    let kind = kind_as _ _ _ same kind-at-is in
    left_stopped _ _ _ _ _ _ _ _ _ (operator_is read kind) _ _ _ _ (not-true _ c.if-not-left.true) c.disclose_expression-left.ensures

pub disclose_operator-disclose_expression-right-requires : goal.disclose_operator-disclose_expression-right-requires
disclose_operator-disclose_expression-right-requires t c = let (kind-at-is, ready) = c.requires in
    let same = c.node_at-node.ensures.same in
    let read = node_reads _ _ _ c.args.function.now.context _ ready.inside _ same in
    let kind = kind_as _ _ _ same kind-at-is in
    let less = operands_below read kind in (
      omega (arith, c.decreases, less.1),
      ready_part _ _ _ _ _ _ _ _ _ _ ready less.1
          (right_room _ _ _ _ _ _ _ _ _ (operator_is read kind) _ _ ready.room _ _ c.disclose_expression-left.ensures
          (not-false _ c.if-not-left.false)),
    )

pub disclose_operator-returns-then-not-right : goal.disclose_operator-returns-then-not-right
disclose_operator-returns-then-not-right t c = let (kind-at-is, ready) = c.requires in
    let same = c.node_at-node.ensures.same in
    let read = node_reads _ _ _ c.args.function.now.context _ ready.inside _ same in
    let kind = kind_as _ _ _ same kind-at-is in
    right_stopped _ _ _ _ _ _ _ _ _ (operator_is read kind) _ _ ready.room _ _ c.disclose_expression-left.ensures
    (not-false _ c.if-not-left.false) _ _ (not-true _ c.if-not-right.true) c.disclose_expression-right.ensures

pub disclose_operator-value_asked-divisor-requires : goal.disclose_operator-value_asked-divisor-requires
disclose_operator-value_asked-divisor-requires t c = let (kind-at-is, ready) = c.requires in
    let same = c.node_at-node.ensures.same in
    let read = node_reads _ _ _ c.args.function.now.context _ ready.inside _ same in
    let less = operands_below read (kind_as _ _ _ same kind-at-is) in
    omega (arith, ready.inside, less.1)

pub disclose_operator-divides-requires : goal.disclose_operator-divides-requires
disclose_operator-divides-requires t c = tt

pub disclose_operator-returns : goal.disclose_operator-returns
disclose_operator-returns t c = let (kind-at-is, ready) = c.requires in
    let same = c.node_at-node.ensures.same in
    let read = node_reads _ _ _ c.args.function.now.context _ ready.inside _ same in
    let kind = kind_as _ _ _ same kind-at-is in
    operator_disclosed _ _ _ _ _ _ _ _ _ (operator_is read kind) _ _ ready.room _ _ c.disclose_expression-left.ensures
    (not-false _ c.if-not-left.false) _ _ _ _ (not-false _ c.if-not-right.false) c.disclose_expression-right.ensures
    (value_here _ _ _ _ _ _ _ ready.called c.value_asked-divisor.ensures) refl c.divides.ensures

pub disclose_reveal-node_at-node-requires : goal.disclose_reveal-node_at-node-requires
disclose_reveal-node_at-node-requires t c =
    let (_, ready) = c.requires in (c.args.function.now.context.narrow, omega (arith, c.args.function.now.context.long, ready.inside))

pub disclose_reveal-disclose_expression-part-requires : goal.disclose_reveal-disclose_expression-part-requires
disclose_reveal-disclose_expression-part-requires t c = let (kind-at-is, ready) = c.requires in
    let same = c.node_at-node.ensures.same in
    let read = node_reads _ _ _ c.args.function.now.context _ ready.inside _ same in
    let kind = kind_as _ _ _ same kind-at-is in
    let less = revealed_below read kind in (
      omega (arith, c.decreases, less),
      ready_part _ _ _ _ _ _ _ _ _ _ ready less
          (part_room _ _ _ _ _ _ _ _ (reveal_is read kind) c.args.out.now _ ready.room),
    )

pub disclose_reveal-returns-then-not-part : goal.disclose_reveal-returns-then-not-part
disclose_reveal-returns-then-not-part t c = let (kind-at-is, ready) = c.requires in
    let same = c.node_at-node.ensures.same in
    let read = node_reads _ _ _ c.args.function.now.context _ ready.inside _ same in
    let kind = kind_as _ _ _ same kind-at-is in
    part_stopped _ _ _ _ _ _ _ _ (reveal_is read kind) _ _ _ _ (not-true _ c.if-not-part.true) c.disclose_expression-part.ensures

pub disclose_reveal-may_read-requires : goal.disclose_reveal-may_read-requires
disclose_reveal-may_read-requires t c = tt

pub disclose_reveal-returns-then-not-may_read : goal.disclose_reveal-returns-then-not-may_read
disclose_reveal-returns-then-not-may_read t c = let (kind-at-is, ready) = c.requires in
    let same = c.node_at-node.ensures.same in
    let read = node_reads _ _ _ c.args.function.now.context _ ready.inside _ same in
    let kind = kind_as _ _ _ same kind-at-is in
    reveal_hidden _ _ _ _ _ _ _ _ (reveal_is read kind) _ _ _ _ (not-false _ c.if-not-part.false)
    (sym c.may_read.ensures ∙ c.if-not-may_read.true) c.disclose_expression-part.ensures

pub disclose_reveal-value_asked-shown-requires : goal.disclose_reveal-value_asked-shown-requires
disclose_reveal-value_asked-shown-requires t c = let (kind-at-is, ready) = c.requires in
    let same = c.node_at-node.ensures.same in
    let read = node_reads _ _ _ c.args.function.now.context _ ready.inside _ same in
    let less = revealed_below read (kind_as _ _ _ same kind-at-is) in
    omega (arith, ready.inside, less)

pub disclose_reveal-append_value-next-requires : goal.disclose_reveal-append_value-next-requires
disclose_reveal-append_value-next-requires t c = let (kind-at-is, ready) = c.requires in
    let same = c.node_at-node.ensures.same in
    let read = node_reads _ _ _ c.args.function.now.context _ ready.inside _ same in
    let kind = kind_as _ _ _ same kind-at-is in
    value_room _ _ _ _ _ _ _ _ (reveal_is read kind) _ _ ready.room _ _ c.disclose_expression-part.ensures
    (not-false _ c.if-not-part.false) (sym c.may_read.ensures ∙ c.if-not-may_read.false)

pub disclose_reveal-returns : goal.disclose_reveal-returns
disclose_reveal-returns t c = let (kind-at-is, ready) = c.requires in
    let same = c.node_at-node.ensures.same in
    let read = node_reads _ _ _ c.args.function.now.context _ ready.inside _ same in
    let kind = kind_as _ _ _ same kind-at-is in
    reveal_disclosed _ _ _ _ _ _ _ _ (reveal_is read kind) _ _ ready.room _ _ c.disclose_expression-part.ensures
    (not-false _ c.if-not-part.false) (sym c.may_read.ensures ∙ c.if-not-may_read.false) _ _ _
    (value_here _ _ _ _ _ _ _ ready.called c.value_asked-shown.ensures) c.append_value-next.ensures refl
