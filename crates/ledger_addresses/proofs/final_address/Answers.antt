-- A field is final by the byte of its shape.
use Rattle.ledger_addresses.proofs.AddressesByCode.{final_held, final_not, final_missing}
use Rattle.kit.specs.Names.{sym, ◌∙◌, arith}
use Rattle.ledger_addresses.proofs.final_address.Goals as goal

pub returns-then-byte_at-eq-FINAL : goal.returns-then-byte_at-eq-FINAL
returns-then-byte_at-eq-FINAL c = let args = c.args in
    let byte_at = c.byte_at.ensures.value in
    final_held args.file.now 0 0 args.places.now args.places.now args.f _ _ (omega (arith, byte_at, c.if-f-byte_at.true)) (sym c.byte_at-then-f-byte_at.ensures.value ∙ c.if-byte_at-eq-FINAL.true) c.position-p.ensures c.number_at.ensures

pub returns-else-byte_at-eq-FINAL : goal.returns-else-byte_at-eq-FINAL
returns-else-byte_at-eq-FINAL c = let args = c.args in
    final_not args.file.now 0 0 args.places.now args.places.now args.f (omega (arith, c.byte_at.ensures.value, c.if-f-byte_at.true)) (λ e. c.if-byte_at-eq-FINAL.false (c.byte_at-then-f-byte_at.ensures.value ∙ e))

pub returns-else-f-byte_at : goal.returns-else-f-byte_at
returns-else-f-byte_at c = let args = c.args in
    final_missing args.file.now 0 0 args.places.now args.places.now args.f (omega (arith, c.byte_at.ensures.value, c.if-f-byte_at.false))
