-- The call is asked first, then the view.
use Rattle.kit.specs.Names.{◌∙◌, ne_eqb}
use Rattle.test_ledgers.proofs.Damages.{same_call, other_call}
use Rattle.test_ledgers.proofs.damage.answers.Goals as goal

pub returns-then-called-call_number : goal.returns-then-called-call_number
returns-then-called-call_number c = same_call _ _ _ _ _ c.call-called.ensures.number c.view-seen.ensures.number c.if-called-call_number.true

pub returns-else-called-call_number : goal.returns-else-called-call_number
returns-else-called-call_number c = ne_eqb _ _ c.if-called-call_number.false ∙ other_call _ _ _ _ _ c.call-called.ensures.number c.view-seen.ensures.number c.if-called-call_number.false
