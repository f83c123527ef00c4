use Rattle.kit.specs.Names.{lt-ltb, le-ltb}
use Rattle.rules_owners.proofs.declared_number.Goals as goal

pub returns-then-code-lt-FINAL_CODES_SHORT : goal.returns-then-code-lt-FINAL_CODES_SHORT
returns-then-code-lt-FINAL_CODES_SHORT c = rw (lt-ltb _ 16 c.if-code-lt-FINAL_CODES_SHORT.true)

pub returns-else-code-lt-FINAL_CODES_SHORT : goal.returns-else-code-lt-FINAL_CODES_SHORT
returns-else-code-lt-FINAL_CODES_SHORT c = rw (le-ltb _ 16 c.if-code-lt-FINAL_CODES_SHORT.false)
