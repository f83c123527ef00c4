use Rattle.walk_steps.proofs.Steps.{branch_third, branch_second}
use Rattle.walk_commands.proofs.branch_of.Goals as goal

pub returns-then-number_of-eq0 : goal.returns-then-number_of-eq0
returns-then-number_of-eq0 c = branch_third _ _ _ _ c.number_of.ensures c.if-number_of-eq0.true

pub returns-else-number_of-eq0 : goal.returns-else-number_of-eq0
returns-else-number_of-eq0 c = branch_second _ _ _ c.args.third c.number_of.ensures c.if-number_of-eq0.false
