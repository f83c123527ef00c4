use Rattle.kit.specs.Names.{sym, ◌∙◌, arith}
use Rattle.rewrite_owners.proofs.Declared.{parameter_public, parameter_private, parameter_absent}
use Rattle.rewrite_owners.proofs.parameter_code.Goals as goal

pub returns-then-byte_at-eq-EVERYONE_CODE : goal.returns-then-byte_at-eq-EVERYONE_CODE
returns-then-byte_at-eq-EVERYONE_CODE c = parameter_public _ _ _ (omega arith) (sym c.byte_at-then-k-byte_at.ensures.value ∙ c.if-byte_at-eq-EVERYONE_CODE.true)

pub returns-else-byte_at-eq-EVERYONE_CODE : goal.returns-else-byte_at-eq-EVERYONE_CODE
returns-else-byte_at-eq-EVERYONE_CODE c = parameter_private _ _ _ (omega arith) (λ e. c.if-byte_at-eq-EVERYONE_CODE.false (c.byte_at-then-k-byte_at.ensures.value ∙ e))

pub returns-else-k-byte_at : goal.returns-else-k-byte_at
returns-else-k-byte_at c = parameter_absent _ _ _ (omega arith)
