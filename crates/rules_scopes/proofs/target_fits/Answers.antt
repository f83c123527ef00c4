use Rattle.kit.specs.Names.{refl, arith}
use Rattle.rules_scopes.proofs.Tables.{all_or_caller, argument_fits, final_fits}
use Rattle.rules_scopes.proofs.target_fits.Goals as goal

pub returns-then-target-lt-PARAMETERS : goal.returns-then-target-lt-PARAMETERS
returns-then-target-lt-PARAMETERS c = all_or_caller c.args.fields.now c.args.parameters.now _ c.if-target-lt-PARAMETERS.true

pub returns-then-target-lt-FINALS : goal.returns-then-target-lt-FINALS
returns-then-target-lt-FINALS c = argument_fits c.args.fields.now c.args.parameters.now c.args.target _ _ (omega arith) (omega arith) c.parameter_from-given.ensures refl

pub returns : goal.returns
returns c = final_fits c.args.fields.now c.args.parameters.now _ c.args.target _ (omega arith) c.field_from-declared.ensures
