use Rattle.kit.specs.Names.{ne_eqb}
use Rattle.rewrite_owners.proofs.parts_code.Goals as goal

pub returns-then-right-eq-EVERYONE_BYTE : goal.returns-then-right-eq-EVERYONE_BYTE
returns-then-right-eq-EVERYONE_BYTE c = rw (c.if-left-eq-EVERYONE_BYTE.true, c.if-right-eq-EVERYONE_BYTE.true)

pub returns-else-right-eq-EVERYONE_BYTE : goal.returns-else-right-eq-EVERYONE_BYTE
returns-else-right-eq-EVERYONE_BYTE c = rw (c.if-left-eq-EVERYONE_BYTE.true, ne_eqb _ _ c.if-right-eq-EVERYONE_BYTE.false)

pub returns-else-left-eq-EVERYONE_BYTE : goal.returns-else-left-eq-EVERYONE_BYTE
returns-else-left-eq-EVERYONE_BYTE c = rw (ne_eqb _ _ c.if-left-eq-EVERYONE_BYTE.false)
