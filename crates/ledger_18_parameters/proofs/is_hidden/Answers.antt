-- By cases of the owner.
use Rattle.ledger_18_parameters.proofs.ParameterSteps.{hidden_public, hidden_private}
use Rattle.ledger_18_parameters.proofs.is_hidden.Goals as goal

pub returns-then-owner-eq-EVERYONE_CODE : goal.returns-then-owner-eq-EVERYONE_CODE
returns-then-owner-eq-EVERYONE_CODE c = let args = c.args in hidden_public args.owner args.all c.if-owner-eq-EVERYONE_CODE.true

pub returns-else-owner-eq-EVERYONE_CODE : goal.returns-else-owner-eq-EVERYONE_CODE
returns-else-owner-eq-EVERYONE_CODE c = let args = c.args in hidden_private args.owner args.all c.if-owner-eq-EVERYONE_CODE.false
