-- Number 18, or the later ones.
use Rattle.kit.specs.Names.{sym, ◌∙◌}
use Rattle.ledger_struct.specs.Ledgers.{ledger_from}
use Rattle.call_18_to_20.proofs.Numbers.{eighteen, later}
use Rattle.call_18_to_20.proofs.call_number.Goals as goal

pub returns-then-is_not_callable : goal.returns-then-is_not_callable
returns-then-is_not_callable c = eighteen _ _ _ _ (sym c.is_not_callable.ensures ∙ c.if-is_not_callable.true)

pub returns : goal.returns
unfolding ledger_from
returns c = later _ _ _ _ _ _ (sym c.is_not_callable.ensures ∙ c.if-is_not_callable.false) c.arguments_off_for.ensures c.number_19_or_20.ensures
