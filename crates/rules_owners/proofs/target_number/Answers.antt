use Rattle.kit.specs.Names.{arith}
use Rattle.rules_owners.proofs.Numbering.{target, target_read}
use Rattle.rules_owners.proofs.target_number.Goals as goal

pub returns-then-code-lt2 : goal.returns-then-code-lt2
returns-then-code-lt2 c = (target_read (target _ c.requires)).0 c.if-code-lt2.true

pub overflow_sub-result : goal.overflow_sub-result
overflow_sub-result c = omega (arith, ((target_read (target _ c.requires)).1 c.if-code-lt2.false c.if-code-lt-FINAL_CODES_END_SHORT.true).0)

pub returns-then-code-lt-FINAL_CODES_END_SHORT : goal.returns-then-code-lt-FINAL_CODES_END_SHORT
returns-then-code-lt-FINAL_CODES_END_SHORT c = ((target_read (target _ c.requires)).1 c.if-code-lt2.false c.if-code-lt-FINAL_CODES_END_SHORT.true).1

pub overflow_sub-result-2 : goal.overflow_sub-result-2
overflow_sub-result-2 c = omega (arith, ((target_read (target _ c.requires)).2 c.if-code-lt-FINAL_CODES_END_SHORT.false).0)

pub returns : goal.returns
returns c = ((target_read (target _ c.requires)).2 c.if-code-lt-FINAL_CODES_END_SHORT.false).1
