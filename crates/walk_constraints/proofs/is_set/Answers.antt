use Rattle.kit.specs.Names.{refl}
use Rattle.walk_contents.proofs.ConstraintParts.{always_set, guard_set}
use Rattle.walk_constraints.proofs.is_set.Goals as goal

pub returns-then-guard-eq0 : goal.returns-then-guard-eq0
returns-then-guard-eq0 c = let args = c.args in always_set args.variables.now args.guard c.if-guard-eq0.true

pub returns-else-guard-eq0 : goal.returns-else-guard-eq0
returns-else-guard-eq0 c = let args = c.args in
    guard_set args.variables.now args.guard _ _ c.if-guard-eq0.false c.plain_at.ensures refl
