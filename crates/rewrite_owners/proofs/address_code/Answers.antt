use Rattle.kit.specs.Names.{sym, ◌∙◌, arith}
use Rattle.rewrite_owners.proofs.Declared.{address_named, address_private, address_other, address_missing}
use Rattle.rewrite_owners.proofs.address_code.Goals as goal

pub returns-then-kind-lt-ADDRESS : goal.returns-then-kind-lt-ADDRESS
returns-then-kind-lt-ADDRESS c = address_other _ _ _ (omega arith) (omega arith)

pub returns-then-owner-eq-EVERYONE_CODE : goal.returns-then-owner-eq-EVERYONE_CODE
returns-then-owner-eq-EVERYONE_CODE c = address_named _ _ _ (omega arith) (omega arith) (sym c.byte_at-owner.ensures.value ∙ c.if-owner-eq-EVERYONE_CODE.true)

pub returns-else-owner-eq-EVERYONE_CODE : goal.returns-else-owner-eq-EVERYONE_CODE
returns-else-owner-eq-EVERYONE_CODE c = address_private _ _ _ (omega arith) (λ e. c.if-owner-eq-EVERYONE_CODE.false (c.byte_at-owner.ensures.value ∙ e))

pub returns-else-k-byte_at : goal.returns-else-k-byte_at
returns-else-k-byte_at c = address_missing _ _ _ (omega arith)
