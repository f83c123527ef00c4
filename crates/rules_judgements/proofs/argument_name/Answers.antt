use Rattle.kit.specs.Names.{arith, eq-eqb, ne_eqb}
use Rattle.rules_judgements.proofs.argument_name.Goals as goal

pub overflow_add-k : goal.overflow_add-k
overflow_add-k c = let h = c.requires c.if-p-eq-EVERYONE_CODE_SHORT.true in
    omega arith

pub returns-then-p-eq-EVERYONE_CODE_SHORT : goal.returns-then-p-eq-EVERYONE_CODE_SHORT
returns-then-p-eq-EVERYONE_CODE_SHORT c = rw (eq-eqb _ _ c.if-p-eq-EVERYONE_CODE_SHORT.true) c.given_if.ensures

pub returns-else-p-eq-EVERYONE_CODE_SHORT : goal.returns-else-p-eq-EVERYONE_CODE_SHORT
returns-else-p-eq-EVERYONE_CODE_SHORT c = rw (ne_eqb _ _ c.if-p-eq-EVERYONE_CODE_SHORT.false)
