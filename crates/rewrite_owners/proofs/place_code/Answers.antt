use Rattle.kit.specs.Names.{ne_eqb}
use Rattle.rewrite_owners.proofs.place_code.Goals as goal

pub returns-then-key-eq-NO_NAME : goal.returns-then-key-eq-NO_NAME
returns-then-key-eq-NO_NAME c = rw (c.if-owner-eq-KEY_BYTE.true, c.if-key-eq-NO_NAME.true)

pub returns-else-key-eq-NO_NAME : goal.returns-else-key-eq-NO_NAME
returns-else-key-eq-NO_NAME c = rw (c.if-owner-eq-KEY_BYTE.true, ne_eqb _ _ c.if-key-eq-NO_NAME.false)

pub returns-else-owner-eq-KEY_BYTE : goal.returns-else-owner-eq-KEY_BYTE
returns-else-owner-eq-KEY_BYTE c = rw (ne_eqb _ _ c.if-owner-eq-KEY_BYTE.false)
