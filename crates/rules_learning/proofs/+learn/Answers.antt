use Rattle.kit.specs.Names.{sym, arith, rules}
use Rattle.rules_links.proofs.Growing.{nothing_learnt, learnt_as, learnt_both}
use Rattle.theory_trees.proofs.ByKind.{operator_is, operands_below}
use Rattle.rules_scopes.proofs.Nodes.{node_reads}
use Rattle.rules_scopes.proofs.Named.{no_links_learnt}
use Rattle.rules_learning.proofs.Learning.{equality_learnt, conjunction_learnt, no_name_learnt}
use Rattle.rules_learning.proofs.+learn.Goals as goal

pub read_node-node-requires : goal.read_node-node-requires
read_node-node-requires t c = (c.requires.0, c.args.slices.now.ready.bodies.few)

pub returns-then-kind-ne-OPERATOR_SHORT : goal.returns-then-kind-ne-OPERATOR_SHORT
returns-then-kind-ne-OPERATOR_SHORT t c = let ready = c.args.slices.now.ready in let inside = c.requires.0 in nothing_learnt _ _ c.requires.2
    (sym (no_links_learnt _ _ ready.bodies _ inside _ c.read_node-node.ensures _ _ c.if-kind-ne-OPERATOR_SHORT.true))

pub name_of-left-requires : goal.name_of-left-requires
name_of-left-requires t c = let ready = c.args.slices.now.ready in let inside = c.requires.0 in let less = (operands_below (node_reads _ _ ready.bodies _ inside _ c.read_node-node.ensures) c.if-kind-ne-OPERATOR_SHORT.false).0 in omega (arith, inside, less)

pub name_of-right-requires : goal.name_of-right-requires
name_of-right-requires t c = let ready = c.args.slices.now.ready in let inside = c.requires.0 in let less = (operands_below (node_reads _ _ ready.bodies _ inside _ c.read_node-node.ensures) c.if-kind-ne-OPERATOR_SHORT.false).1 in omega (arith, inside, less)

pub link-requires : goal.link-requires
link-requires t c = let long = c.requires.1 in
    (c.requires.2, omega (arith, long, c.name_of-left.ensures.upper_bound), omega (arith, long, c.name_of-right.ensures.upper_bound))

pub learn-one-requires : goal.learn-one-requires
learn-one-requires t c = let ready = c.args.slices.now.ready in let inside = c.requires.0 in let less = (operands_below (node_reads _ _ ready.bodies _ inside _ c.read_node-node.ensures) c.if-kind-ne-OPERATOR_SHORT.false).0 in
    (omega (arith, c.requires.0, less), (omega (arith, inside, less), c.requires.1, c.requires.2))

pub learn-other-requires : goal.learn-other-requires
learn-other-requires t c = let ready = c.args.slices.now.ready in let inside = c.requires.0 in let less = (operands_below (node_reads _ _ ready.bodies _ inside _ c.read_node-node.ensures) c.if-kind-ne-OPERATOR_SHORT.false).1 in let first = c.learn-one.ensures in
    (omega (arith, c.requires.0, less), (omega (arith, inside, less), rw first.long c.requires.1, first.classed))

pub returns-in-7 : goal.returns-in-7
returns-in-7 t c = let ready = c.args.slices.now.ready in let inside = c.requires.0 in let tree = operator_is (node_reads _ _ ready.bodies _ inside _ c.read_node-node.ensures) c.if-kind-ne-OPERATOR_SHORT.false in
    learnt_as c.link.ensures (equality_learnt _ _ _ _ _ _ tree c.name_of-left.result c.name_of-right.result c.in-7.is c.name_of-left.ensures.n_value c.name_of-right.ensures.n_value)

pub returns-in-9 : goal.returns-in-9
returns-in-9 t c = let ready = c.args.slices.now.ready in let inside = c.requires.0 in let tree = operator_is (node_reads _ _ ready.bodies _ inside _ c.read_node-node.ensures) c.if-kind-ne-OPERATOR_SHORT.false in
    let first = c.learn-one.ensures in
    (learnt_both first (learnt_as c.learn-other.ensures (conjunction_learnt _ _ _ _ _ _ tree _ c.in-9.is first.links)))

pub returns-in_default : goal.returns-in_default
returns-in_default t c = let ready = c.args.slices.now.ready in let inside = c.requires.0 in let tree = operator_is (node_reads _ _ ready.bodies _ inside _ c.read_node-node.ensures) c.if-kind-ne-OPERATOR_SHORT.false in
    nothing_learnt _ _ c.requires.2 (no_name_learnt _ _ _ _ _ _ tree (search rules) (search rules))
