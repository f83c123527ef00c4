use Rattle.kit.specs.Names.{refl, sym, ◌∙◌, arith, not-true, not-false}
use Rattle.write_trees.specs.Trees.{command_in}
use Rattle.write_trees.specs.Table.{table_of}
use Rattle.write_trees.proofs.Read.{read_here}
use Rattle.write_trees.proofs.ByKind.{command_sequence, command_conditional, two_fall, three_fall, form_sequence, form_conditional}
use Rattle.ledger_circuits.specs.Circuits.{constraints_from}
use Rattle.definitions.specs.Basics.{is_true}
use Rattle.definitions.specs.Ledger.{plain_number}
use Rattle.ledger_contents.specs.Contents.{content_of_code}
use Rattle.walk_expressions.specs.Evaluation.{state_of}
use Rattle.walk_steps.proofs.Steps.{ran_same, ran_fails, if_kind, handed, still_there, branch_below, sequence_fails, sequence_next, sequence_goes_on, if_fails, if_next, if_goes_on}
use Rattle.walk_commands.proofs.+run.Goals as goal

pub loop-node-init : goal.loop-node-init
loop-node-init t c = (omega arith, (refl, (refl, (refl, refl))))

pub hands_on-requires : goal.hands_on-requires
hands_on-requires t c = let (n-bound, (readable, _)) = c.requires in
    let (at_bound, _) = c.loop-node.invariant in ((still_there _ _ _ at_bound n-bound), readable)

pub overflow_mul-at : goal.overflow_mul-at
overflow_mul-at t c = let (n-bound, (readable, _)) = c.requires in
    let (at_bound, _) = c.loop-node.invariant in omega (arith, n-bound, at_bound, readable.few)

pub read_node-node-requires : goal.read_node-node-requires
read_node-node-requires t c = let (n-bound, (readable, _)) = c.requires in
    let (at_bound, _) = c.loop-node.invariant in omega (arith, n-bound, at_bound, readable.few)

pub run-requires : goal.run-requires
run-requires t c = let (n-bound, (readable, field-count-bound)) = c.requires in
    let (at_bound, _) = c.loop-node.invariant in
    let less = two_fall _ readable.falling _ _ (read_here _ _ (still_there _ _ _ at_bound n-bound) _ c.read_node-node.ensures) (form_sequence _ c.if-node-eq-SEQUENCE.true) in
    (omega (arith, c.decreases, at_bound), (omega (arith, n-bound, at_bound), (readable, field-count-bound)))

pub shape_of-places-then-not-run : goal.shape_of-places-then-not-run
shape_of-places-then-not-run t c = let (_, (places-length, _)) = c.loop-node.invariant in
    omega (arith, c.run.auto.places, places-length)

pub shape_of-variables-then-not-run : goal.shape_of-variables-then-not-run
shape_of-variables-then-not-run t c = let (_, (_, (variables-length, _))) = c.loop-node.invariant in
    omega (arith, c.run.auto.variables, variables-length)

pub returns-then-not-run : goal.returns-then-not-run
returns-then-not-run t c = let args = c.args in let (n-bound, (readable, _)) = c.requires in
    let loop = c.loop-node in
    let (at_bound, (_, (_, (completes-from-is, _)))) = c.loop-node.invariant in
    let read-node = c.read_node-node.ensures in
    let if2-taken = c.if-node-eq-SEQUENCE.true in
    let run-2 = c.run.ensures in
    ran_fails _ _ _ (sequence_fails args.file.now args.addresses.now args.parameters.now (constraints_from (table_of args.nodes.now) args.constraints.now) (state_of loop.places loop.variables) (command_in (table_of args.nodes.now) loop.at) _ completes-from-is _ _ _ _ (command_sequence _ readable.falling _ _ (read_here _ _ (still_there _ _ _ at_bound n-bound) _ read-node) if2-taken) run-2 c.if-not-run.true)

pub loop-node-smaller-then-node-eq-SEQUENCE : goal.loop-node-smaller-then-node-eq-SEQUENCE
loop-node-smaller-then-node-eq-SEQUENCE t c = let (n-bound, (readable, _)) = c.requires in
    let (at_bound, _) = c.loop-node.invariant in
    let read-node = c.read_node-node.ensures in
    let if2-taken = c.if-node-eq-SEQUENCE.true in
    let less = two_fall _ readable.falling _ _ (read_here _ _ (still_there _ _ _ at_bound n-bound) _ read-node) (form_sequence _ if2-taken) in
    omega arith

pub loop-node-preserved-then-node-eq-SEQUENCE : goal.loop-node-preserved-then-node-eq-SEQUENCE
loop-node-preserved-then-node-eq-SEQUENCE t c = let args = c.args in let (n-bound, (readable, _)) = c.requires in
    let loop = c.loop-node in
    let (at_bound, (places-length, (variables-length, (completes-from-is, after-from-is)))) = c.loop-node.invariant in
    let read-node = c.read_node-node.ensures in
    let if2-taken = c.if-node-eq-SEQUENCE.true in
    let run-2 = c.run in
    let less = two_fall _ readable.falling _ _ (read_here _ _ (still_there _ _ _ at_bound n-bound) _ read-node) (form_sequence _ if2-taken) in (
      omega (arith, at_bound),
      (
        omega (arith, run-2.auto.places, places-length),
        (
          omega (arith, run-2.auto.variables, variables-length),
          (
            sequence_next args.file.now args.addresses.now args.parameters.now (constraints_from (table_of args.nodes.now) args.constraints.now) (state_of loop.places loop.variables) (command_in (table_of args.nodes.now) loop.at) _ completes-from-is _ _ _ _ (command_sequence _ readable.falling _ _ (read_here _ _ (still_there _ _ _ at_bound n-bound) _ read-node) if2-taken) run-2.ensures c.if-not-run.false,
            sequence_goes_on args.file.now args.addresses.now args.parameters.now (constraints_from (table_of args.nodes.now) args.constraints.now) (state_of loop.places loop.variables) (command_in (table_of args.nodes.now) loop.at) _ after-from-is _ _ _ _ (command_sequence _ readable.falling _ _ (read_here _ _ (still_there _ _ _ at_bound n-bound) _ read-node) if2-taken) run-2.ensures c.if-not-run.false,
          ),
        ),
      ),
    )

pub evaluate-condition-requires : goal.evaluate-condition-requires
evaluate-condition-requires t c = let (n-bound, (readable, field-count-bound)) = c.requires in
    let (at_bound, _) = c.loop-node.invariant in
    let hands_on = c.hands_on.ensures in
    let if1-taken = c.loop-node-test.true in
    let read-node = c.read_node-node.ensures in
    let less = (three_fall _ readable.falling _ _ (read_here _ _ (still_there _ _ _ at_bound n-bound) _ read-node) (form_conditional _ (if_kind _ (handed _ _ _ _ (read_here _ _ (still_there _ _ _ at_bound n-bound) _ read-node) hands_on if1-taken) c.if-node-eq-SEQUENCE.false))) in
    (omega (arith, n-bound, at_bound), (readable, field-count-bound))

pub shape_of-places-then-not-condition : goal.shape_of-places-then-not-condition
shape_of-places-then-not-condition t c = let (_, (places-length, _)) = c.loop-node.invariant in
    omega (arith, places-length)

pub shape_of-variables-then-not-condition : goal.shape_of-variables-then-not-condition
shape_of-variables-then-not-condition t c = let (_, (_, (variables-length, _))) = c.loop-node.invariant in
    omega (arith, variables-length)

pub returns-then-not-condition : goal.returns-then-not-condition
returns-then-not-condition t c = let args = c.args in let (n-bound, (readable, _)) = c.requires in
    let loop = c.loop-node in
    let (at_bound, (_, (_, (completes-from-is, _)))) = c.loop-node.invariant in
    let hands_on = c.hands_on.ensures in
    let if1-taken = c.loop-node-test.true in
    let read-node = c.read_node-node.ensures in
    let if2-left = c.if-node-eq-SEQUENCE.false in let evaluate = c.evaluate-condition in
    ran_fails _ _ _ (if_fails args.file.now args.addresses.now args.parameters.now (constraints_from (table_of args.nodes.now) args.constraints.now) (state_of loop.places loop.variables) (command_in (table_of args.nodes.now) loop.at) _ completes-from-is _ _ _ evaluate.result (command_conditional _ readable.falling _ _ (read_here _ _ (still_there _ _ _ at_bound n-bound) _ read-node) (if_kind _ (handed _ _ _ _ (read_here _ _ (still_there _ _ _ at_bound n-bound) _ read-node) hands_on if1-taken) if2-left)) evaluate.ensures (not-true _ c.if-not-condition.true))

pub loop-node-smaller : goal.loop-node-smaller
loop-node-smaller t c = let (n-bound, (readable, _)) = c.requires in
    let (at_bound, _) = c.loop-node.invariant in
    let hands_on = c.hands_on.ensures in
    let if1-taken = c.loop-node-test.true in
    let read-node = c.read_node-node.ensures in
    let if2-left = c.if-node-eq-SEQUENCE.false in
    let less = (three_fall _ readable.falling _ _ (read_here _ _ (still_there _ _ _ at_bound n-bound) _ read-node) (form_conditional _ (if_kind _ (handed _ _ _ _ (read_here _ _ (still_there _ _ _ at_bound n-bound) _ read-node) hands_on if1-taken) if2-left))) in
    branch_below (is_true (plain_number (content_of_code c.evaluate-condition.result.content))) _ _ _ _ c.branch_of-at.ensures less.1.0 less.1.1

pub loop-node-preserved : goal.loop-node-preserved
loop-node-preserved t c = let args = c.args in let (n-bound, (readable, _)) = c.requires in
    let loop = c.loop-node in
    let (at_bound, (places-length, (variables-length, (completes-from-is, after-from-is)))) = c.loop-node.invariant in
    let hands_on = c.hands_on.ensures in
    let if1-taken = c.loop-node-test.true in
    let read-node = c.read_node-node in
    let if2-left = c.if-node-eq-SEQUENCE.false in let evaluate = c.evaluate-condition in
    let less = (three_fall _ readable.falling _ _ (read_here _ _ (still_there _ _ _ at_bound n-bound) _ read-node.ensures) (form_conditional _ (if_kind _ (handed _ _ _ _ (read_here _ _ (still_there _ _ _ at_bound n-bound) _ read-node.ensures) hands_on if1-taken) if2-left))) in
    let below = branch_below (is_true (plain_number (content_of_code evaluate.result.content))) _ _ _ _ c.branch_of-at.ensures less.1.0 less.1.1 in (
      omega (arith, at_bound),
      (
        places-length,
        (
          variables-length,
          (
            if_next args.file.now args.addresses.now args.parameters.now (constraints_from (table_of args.nodes.now) args.constraints.now) (state_of loop.places loop.variables) (command_in (table_of args.nodes.now) loop.at) _ completes-from-is (table_of args.nodes.now) _ read-node.result.second read-node.result.third _ evaluate.result (command_conditional _ readable.falling _ _ (read_here _ _ (still_there _ _ _ at_bound n-bound) _ read-node.ensures) (if_kind _ (handed _ _ _ _ (read_here _ _ (still_there _ _ _ at_bound n-bound) _ read-node.ensures) hands_on if1-taken) if2-left)) evaluate.ensures (not-false _ c.if-not-condition.false) c.branch_of-at.ensures,
            if_goes_on args.file.now args.addresses.now args.parameters.now (constraints_from (table_of args.nodes.now) args.constraints.now) (state_of loop.places loop.variables) (command_in (table_of args.nodes.now) loop.at) _ after-from-is (table_of args.nodes.now) _ read-node.result.second read-node.result.third _ evaluate.result (command_conditional _ readable.falling _ _ (read_here _ _ (still_there _ _ _ at_bound n-bound) _ read-node.ensures) (if_kind _ (handed _ _ _ _ (read_here _ _ (still_there _ _ _ at_bound n-bound) _ read-node.ensures) hands_on if1-taken) if2-left)) evaluate.ensures c.branch_of-at.ensures,
          ),
        ),
      ),
    )

pub step-requires : goal.step-requires
step-requires t c = let (n-bound, (readable, field-count-bound)) = c.requires in
    let (at_bound, _) = c.loop-node.invariant in
    ((still_there _ _ _ at_bound n-bound), (readable, (field-count-bound, sym c.hands_on.ensures ∙ c.loop-node-test.false)))

pub shape_of-places : goal.shape_of-places
shape_of-places t c = let (_, (places-length, _)) = c.loop-node.invariant in
    omega (arith, c.step.auto.places, places-length)

pub shape_of-variables : goal.shape_of-variables
shape_of-variables t c = let (_, (_, (variables-length, _))) = c.loop-node.invariant in
    omega (arith, c.step.auto.variables, variables-length)

pub returns : goal.returns
returns t c = let (_, (_, (_, (completes-from-is, after-from-is)))) = c.loop-node.invariant in
    ran_same _ _ _ _ _ _ c.step.ensures completes-from-is after-from-is
