use Rattle.kit.specs.Names.{refl}
use Rattle.rules_codes.proofs.is_division.Goals as goal

pub returns : goal.returns
returns c = rw (← c.operator_number-operator.ensures) refl
