use Rattle.rules_scopes.proofs.Tables.{parameter_read_law, parameter_missing}
use Rattle.rules_scopes.proofs.parameter_from.Goals as goal

pub returns-then-at-parameters : goal.returns-then-at-parameters
returns-then-at-parameters c = parameter_read_law _ c.requires _ c.if-at-parameters.true

pub returns-else-at-parameters : goal.returns-else-at-parameters
returns-else-at-parameters c = parameter_missing _ c.requires _ c.if-at-parameters.false
