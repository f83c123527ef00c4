use Rattle.kit.specs.Names.{sym, ◌∙◌, arith}
use Rattle.rewrite_owners.proofs.Declared.{final_named, final_unnamed, final_missing}
use Rattle.rewrite_owners.proofs.final_code.Goals as goal

pub returns-then-byte_at-eq-FINAL : goal.returns-then-byte_at-eq-FINAL
returns-then-byte_at-eq-FINAL c = final_named _ _ (omega arith) (sym c.byte_at-then-f-byte_at.ensures.value ∙ c.if-byte_at-eq-FINAL.true)

pub returns-else-byte_at-eq-FINAL : goal.returns-else-byte_at-eq-FINAL
returns-else-byte_at-eq-FINAL c = final_unnamed _ _ (omega arith) (λ e. c.if-byte_at-eq-FINAL.false (c.byte_at-then-f-byte_at.ensures.value ∙ e))

pub returns-else-f-byte_at : goal.returns-else-f-byte_at
returns-else-f-byte_at c = final_missing _ _ (omega arith)
