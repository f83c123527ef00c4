use Rattle.kit.specs.Names.{refl}
use Rattle.walk_expressions.proofs.ExpressionsByKind.{opposite_number}
use Rattle.walk_expressions.proofs.opposite.Goals as goal

pub returns : goal.returns
returns c = record { is_walked = refl; same = opposite_number _ _ _ c.number_of.ensures c.negated-number.ensures }
