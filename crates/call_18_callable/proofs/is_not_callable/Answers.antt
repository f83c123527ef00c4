-- The three parts of the sentence, in turn.
use Rattle.kit.specs.Names.{sym, ◌∙◌, ltb-true, ltb-false}
use Rattle.ledger_struct.specs.Ledgers.{ledger_from}
use Rattle.call_18_callable.proofs.Callable.{not_well_formed, caller_above, otherwise}
use Rattle.call_18_callable.proofs.is_not_callable.Goals as goal

pub returns-then-not-is_well_formed : goal.returns-then-not-is_well_formed
returns-then-not-is_well_formed c = not_well_formed _ _ _ (sym c.is_well_formed.ensures ∙ c.if-not-is_well_formed.true)

pub returns-then-is_above_15 : goal.returns-then-is_above_15
returns-then-is_above_15 c = caller_above _ _ _ (sym c.is_well_formed.ensures ∙ c.if-not-is_well_formed.false)
    (ltb-true 15 _ (sym c.is_above_15.ensures ∙ c.if-is_above_15.true))

pub returns : goal.returns
unfolding ledger_from
returns c = otherwise _ _ _ _ (sym c.is_well_formed.ensures ∙ c.if-not-is_well_formed.false)
    (ltb-false 15 _ (sym c.is_above_15.ensures ∙ c.if-is_above_15.false)) c.lacks_function.ensures
