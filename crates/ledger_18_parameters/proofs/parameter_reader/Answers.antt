-- By cases of the owner.
use Rattle.ledger_18_parameters.proofs.ParameterSteps.{reader_public, reader_private}
use Rattle.ledger_18_parameters.proofs.parameter_reader.Goals as goal

pub returns-then-owner-eq-EVERYONE_CODE : goal.returns-then-owner-eq-EVERYONE_CODE
returns-then-owner-eq-EVERYONE_CODE c = let args = c.args in reader_public args.owner args.caller c.if-owner-eq-EVERYONE_CODE.true

pub returns-else-owner-eq-EVERYONE_CODE : goal.returns-else-owner-eq-EVERYONE_CODE
returns-else-owner-eq-EVERYONE_CODE c = let args = c.args in reader_private args.owner args.caller c.if-owner-eq-EVERYONE_CODE.false
