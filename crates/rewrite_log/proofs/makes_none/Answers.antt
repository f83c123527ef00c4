-- The tag is that of a claim, or it is compared with that of an end.
use Rattle.kit.specs.Names.{eq-eqb, ne_eqb}
use Rattle.rewrite_log.proofs.makes_none.Goals as goal

pub returns-then-tag-eq-CLAIM_LOGGED : goal.returns-then-tag-eq-CLAIM_LOGGED
returns-then-tag-eq-CLAIM_LOGGED c = rw (eq-eqb _ 1 c.if-tag-eq-CLAIM_LOGGED.true)

pub returns-else-tag-eq-CLAIM_LOGGED : goal.returns-else-tag-eq-CLAIM_LOGGED
returns-else-tag-eq-CLAIM_LOGGED c = rw (ne_eqb _ 1 c.if-tag-eq-CLAIM_LOGGED.false)
