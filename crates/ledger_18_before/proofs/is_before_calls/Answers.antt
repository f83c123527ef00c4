-- Each part of the last call is zero.
use Rattle.kit.specs.Names.{eq-eqb, ne_eqb, lt-ltb, le-ltb}
use Rattle.ledger_struct.specs.Ledgers.{ledger_from}
use Rattle.ledger_18_parts.proofs.Flats.{none_shown}
use Rattle.ledger_18_before.proofs.is_before_calls.Goals as goal

pub returns-then-last-ne0 : goal.returns-then-last-ne0
unfolding ledger_from
returns-then-last-ne0 c = rw (ne_eqb _ _ c.if-last-ne0.true)

pub returns-then-last-ne0-2 : goal.returns-then-last-ne0-2
unfolding ledger_from
returns-then-last-ne0-2 c = rw (eq-eqb _ _ c.if-last-ne0.false, ne_eqb _ _ c.if-last-ne0-2.true)

pub returns-then-last-ne0-3 : goal.returns-then-last-ne0-3
unfolding ledger_from
returns-then-last-ne0-3 c = rw (eq-eqb _ _ c.if-last-ne0.false, eq-eqb _ _ c.if-last-ne0-2.false, ne_eqb _ _ c.if-last-ne0-3.true)

pub returns-then-last-ne0-4 : goal.returns-then-last-ne0-4
unfolding ledger_from
returns-then-last-ne0-4 c = rw (eq-eqb _ _ c.if-last-ne0.false, eq-eqb _ _ c.if-last-ne0-2.false, eq-eqb _ _ c.if-last-ne0-3.false, ne_eqb _ _ c.if-last-ne0-4.true)

pub returns-then-parameters-ge5 : goal.returns-then-parameters-ge5
unfolding ledger_from
returns-then-parameters-ge5 c = rw (eq-eqb _ _ c.if-last-ne0.false, eq-eqb _ _ c.if-last-ne0-2.false, eq-eqb _ _ c.if-last-ne0-3.false, eq-eqb _ _ c.if-last-ne0-4.false)
    (rw (none_shown c.args.parameters.now, le-ltb _ _ c.if-parameters-ge5.true))

pub returns : goal.returns
unfolding ledger_from
returns c = let args = c.args in
    rw (eq-eqb _ _ c.if-last-ne0.false, eq-eqb _ _ c.if-last-ne0-2.false, eq-eqb _ _ c.if-last-ne0-3.false, eq-eqb _ _ c.if-last-ne0-4.false)
    (rw (none_shown args.parameters.now, lt-ltb _ _ c.if-parameters-ge5.false, none_shown args.variables.now))
