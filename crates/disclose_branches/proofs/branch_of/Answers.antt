-- A condition is false where it is 0.
use Rattle.kit.specs.Names.{refl, eq-eqb, ne_eqb}
use Rattle.disclose_branches.proofs.branch_of.Goals as goal

pub returns-then-condition-eq0 : goal.returns-then-condition-eq0
returns-then-condition-eq0 c = rw (eq-eqb c.args.condition 0 c.if-condition-eq0.true) refl

pub returns-else-condition-eq0 : goal.returns-else-condition-eq0
returns-else-condition-eq0 c = rw (ne_eqb c.args.condition 0 c.if-condition-eq0.false) refl
