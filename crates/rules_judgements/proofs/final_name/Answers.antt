use Rattle.kit.specs.Names.{eq-eqb, ne_eqb}
use Rattle.rules_judgements.proofs.final_name.Goals as goal

pub returns-then-d-eq-FINAL_SHORT : goal.returns-then-d-eq-FINAL_SHORT
returns-then-d-eq-FINAL_SHORT c = rw (eq-eqb _ _ c.if-d-eq-FINAL_SHORT.true)

pub returns-else-d-eq-FINAL_SHORT : goal.returns-else-d-eq-FINAL_SHORT
returns-else-d-eq-FINAL_SHORT c = rw (ne_eqb _ _ c.if-d-eq-FINAL_SHORT.false)
