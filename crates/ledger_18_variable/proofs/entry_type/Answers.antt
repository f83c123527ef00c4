-- A guard, a node, or a node that is not there.
use Rattle.kit.specs.Names.{arith}
use Rattle.ledger_18_variable.proofs.Log.{guard_typed, node_typed, past_typed}
use Rattle.ledger_18_variable.proofs.entry_type.Goals as goal

pub returns-then-tag-eq-GUARD_LOGGED : goal.returns-then-tag-eq-GUARD_LOGGED
returns-then-tag-eq-GUARD_LOGGED c = guard_typed _ _ _ _ _ c.args.function.now.context c.if-tag-eq-GUARD_LOGGED.true

pub returns-then-node-function : goal.returns-then-node-function
returns-then-node-function c =
    node_typed _ _ _ _ _ c.args.function.now.context c.type_code.result c.if-tag-eq-GUARD_LOGGED.false c.type_code.ensures

pub returns-else-node-function : goal.returns-else-node-function
returns-else-node-function c = let context = c.args.function.now.context in
    past_typed _ _ _ _ _ context c.if-tag-eq-GUARD_LOGGED.false (omega (arith, context.long))
