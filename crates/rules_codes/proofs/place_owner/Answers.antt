use Rattle.kit.specs.Names.{eq-eqb, ne_eqb}
use Rattle.rules_codes.proofs.place_owner.Goals as goal

pub returns-then-name-eq0 : goal.returns-then-name-eq0
returns-then-name-eq0 c = rw (c.if-d.true, eq-eqb _ _ c.if-name-eq0.true)

pub returns-else-name-eq0 : goal.returns-else-name-eq0
returns-else-name-eq0 c = rw (c.if-d.true, ne_eqb _ _ c.if-name-eq0.false)
