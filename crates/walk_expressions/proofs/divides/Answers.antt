use Rattle.kit.specs.Names.{rules}
use Rattle.walk_expressions.proofs.ExpressionsByKind.{fails_divide, fails_remainder, works_other, works_divisor}
use Rattle.walk_expressions.proofs.divides.Goals as goal

pub returns-in-3 : goal.returns-in-3
returns-in-3 c = let args = c.args in fails_divide args.code args.divisor c.in-3.is c.if-divisor-eq0.true

pub returns-in-4 : goal.returns-in-4
returns-in-4 c = let args = c.args in fails_remainder args.code args.divisor c.in-4.is c.if-divisor-eq0.true

pub returns-in_default : goal.returns-in_default
returns-in_default c = let args = c.args in works_other args.code args.divisor (search rules) (search rules)

pub returns-else-divisor-eq0 : goal.returns-else-divisor-eq0
returns-else-divisor-eq0 c = let args = c.args in works_divisor args.code args.divisor c.if-divisor-eq0.false
