use Rattle.kit.specs.Names.{arith}
use Rattle.theory_trees.proofs.ByKind.{sequence_is, conditional_is, steps_below, branches_below}
use Rattle.file_accepted.proofs.Nodes.{node_reads}
use Rattle.honest_values.proofs.ValuesByKind.{kind_as}
use Rattle.honest_statements.proofs.Putting.{space_guard, space_branch}
use Rattle.honest_statements.proofs.Steps.{one_space, two_space, sequence_honest, condition_room, branches_space, conditional_honest, then_space, else_space, branches_honest, branch_honest}
use Rattle.honest_statements.proofs.+branch_slots_branches_slots_conditional_slots_sequence_slots_statement_slots.Goals as goal

pub branch_slots-put_slot-requires : goal.branch_slots-put_slot-requires
branch_slots-put_slot-requires t c = let startable = c.requires in space_guard _ _ _ startable.space

pub branch_slots-statement_slots-requires : goal.branch_slots-statement_slots-requires
branch_slots-statement_slots-requires t c = let startable = c.requires in
    (omega (arith, c.decreases), record { inside = startable.inside; space = space_branch _ _ _ _ startable.space c.put_slot.ensures })

pub branch_slots-returns : goal.branch_slots-returns
branch_slots-returns t c = let startable = c.requires in
    let put-slot = c.put_slot.ensures in
    branch_honest _ _ _ _ _ _ _ _ _ _ _ _ _ startable.space put-slot c.statement_slots.ensures

pub branches_slots-is_taken-taken-requires : goal.branches_slots-is_taken-taken-requires
branches_slots-is_taken-taken-requires t c = let (kind-at-is, startable) = c.requires in let context = c.args.function.now.context in
    let node-at-same = c.node_at-node.ensures.same in
    let less = branches_below (node_reads _ _ _ context _ startable.inside _ node-at-same) (kind_as _ _ _ node-at-same kind-at-is) in
    omega (arith, startable.inside, less.0)

pub branches_slots-branch_slots-k-requires : goal.branches_slots-branch_slots-k-requires
branches_slots-branch_slots-k-requires t c = let (kind-at-is, startable) = c.requires in let context = c.args.function.now.context in
    let node-at-same = c.node_at-node.ensures.same in
    let less = branches_below (node_reads _ _ _ context _ startable.inside _ node-at-same) (kind_as _ _ _ node-at-same kind-at-is) in
    (omega (arith, c.decreases, less.1.0), record { inside = omega (arith, startable.inside, less.1.0); space = then_space _ _ _ _ _ _ _ _ _ _ (conditional_is (node_reads _ _ _ context _ startable.inside _ node-at-same) (kind_as _ _ _ node-at-same kind-at-is)) _ _ startable.space _ _ c.is_taken-taken.ensures c.both.ensures })

pub branches_slots-branch_slots-requires : goal.branches_slots-branch_slots-requires
branches_slots-branch_slots-requires t c = let (kind-at-is, startable) = c.requires in let context = c.args.function.now.context in
    let node-at-same = c.node_at-node.ensures.same in
    let is-taken = c.is_taken-taken.ensures in
    let both = c.both.ensures in
    let branch-slots-2 = c.branch_slots-k.ensures in
    let less = branches_below (node_reads _ _ _ context _ startable.inside _ node-at-same) (kind_as _ _ _ node-at-same kind-at-is) in
    (omega (arith, c.decreases, less.1.1), record { inside = omega (arith, startable.inside, less.1.1); space = else_space _ _ _ _ _ _ _ _ _ _ (conditional_is (node_reads _ _ _ context _ startable.inside _ node-at-same) (kind_as _ _ _ node-at-same kind-at-is)) _ _ startable.space _ _ is-taken both _ _ _ branch-slots-2 _ c.only.ensures })

pub branches_slots-returns : goal.branches_slots-returns
branches_slots-returns t c = let (kind-at-is, startable) = c.requires in let context = c.args.function.now.context in
    let node-at-same = c.node_at-node.ensures.same in
    let is-taken = c.is_taken-taken.ensures in
    let both = c.both.ensures in
    let branch-slots-2 = c.branch_slots-k.ensures in
    let only = c.only.ensures in
    branches_honest _ _ _ _ _ _ _ _ _ _ (conditional_is (node_reads _ _ _ context _ startable.inside _ node-at-same) (kind_as _ _ _ node-at-same kind-at-is)) _ _ startable.space _ _ is-taken both _ _ _ branch-slots-2 _ only _ _ _ c.branch_slots.ensures

pub conditional_slots-body_slots-j-requires : goal.conditional_slots-body_slots-j-requires
conditional_slots-body_slots-j-requires t c = let (kind-at-is, startable) = c.requires in let context = c.args.function.now.context in
    let node-at-same = c.node_at-first.ensures.same in
    let less = branches_below (node_reads _ _ _ context _ startable.inside _ node-at-same) (kind_as _ _ _ node-at-same kind-at-is) in
    record { inside = omega (arith, startable.inside, less.0); room = condition_room _ _ _ _ _ _ _ _ _ _ (conditional_is (node_reads _ _ _ context _ startable.inside _ node-at-same) (kind_as _ _ _ node-at-same kind-at-is)) _ _ startable.space }

pub conditional_slots-branches_slots-requires : goal.conditional_slots-branches_slots-requires
conditional_slots-branches_slots-requires t c = let (kind-at-is, startable) = c.requires in let context = c.args.function.now.context in
    let node-at-same = c.node_at-first.ensures.same in
    (omega (arith, c.decreases), (kind-at-is, record { inside = startable.inside; space = branches_space _ _ _ _ _ _ _ _ _ _ (conditional_is (node_reads _ _ _ context _ startable.inside _ node-at-same) (kind_as _ _ _ node-at-same kind-at-is)) _ _ startable.space _ _ c.body_slots-j.ensures }))

pub conditional_slots-returns : goal.conditional_slots-returns
conditional_slots-returns t c = let (kind-at-is, startable) = c.requires in let context = c.args.function.now.context in
    let node-at-same = c.node_at-first.ensures.same in
    let body-slots = c.body_slots-j.ensures in
    conditional_honest _ _ _ _ _ _ _ _ _ _ (conditional_is (node_reads _ _ _ context _ startable.inside _ node-at-same) (kind_as _ _ _ node-at-same kind-at-is)) _ _ startable.space _ _ body-slots _ _ _ c.branches_slots.ensures

pub sequence_slots-statement_slots-j-requires : goal.sequence_slots-statement_slots-j-requires
sequence_slots-statement_slots-j-requires t c = let (kind-at-is, startable) = c.requires in let context = c.args.function.now.context in
    let node-at-same = c.node_at-node.ensures.same in
    let less = steps_below (node_reads _ _ _ context _ startable.inside _ node-at-same) (kind_as _ _ _ node-at-same kind-at-is) in
    (omega (arith, c.decreases, less.0), record { inside = omega (arith, startable.inside, less.0); space = one_space _ _ _ _ _ _ _ _ _ (sequence_is (node_reads _ _ _ context _ startable.inside _ node-at-same) (kind_as _ _ _ node-at-same kind-at-is)) _ _ startable.space })

pub sequence_slots-statement_slots-requires : goal.sequence_slots-statement_slots-requires
sequence_slots-statement_slots-requires t c = let (kind-at-is, startable) = c.requires in let context = c.args.function.now.context in
    let node-at-same = c.node_at-node.ensures.same in
    let statement-slots-2 = c.statement_slots-j.ensures in
    let less = steps_below (node_reads _ _ _ context _ startable.inside _ node-at-same) (kind_as _ _ _ node-at-same kind-at-is) in
    (omega (arith, c.decreases, less.1), record { inside = omega (arith, startable.inside, less.1); space = two_space _ _ _ _ _ _ _ _ _ (sequence_is (node_reads _ _ _ context _ startable.inside _ node-at-same) (kind_as _ _ _ node-at-same kind-at-is)) _ _ startable.space _ _ _ statement-slots-2 })

pub sequence_slots-returns : goal.sequence_slots-returns
sequence_slots-returns t c = let (kind-at-is, startable) = c.requires in let context = c.args.function.now.context in
    let node-at-same = c.node_at-node.ensures.same in
    let statement-slots-2 = c.statement_slots-j.ensures in
    sequence_honest _ _ _ _ _ _ _ _ _ (sequence_is (node_reads _ _ _ context _ startable.inside _ node-at-same) (kind_as _ _ _ node-at-same kind-at-is)) _ _ startable.space _ _ _ statement-slots-2 _ _ _ c.statement_slots.ensures
