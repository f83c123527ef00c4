-- A parameter is public by the byte of its owner.
use Rattle.ledger_addresses.proofs.AddressesByCode.{parameter_held, parameter_private, parameter_absent}
use Rattle.kit.specs.Names.{sym, ◌∙◌, arith}
use Rattle.ledger_addresses.proofs.parameter_address.Goals as goal

pub returns-then-byte_at-eq-EVERYONE_CODE : goal.returns-then-byte_at-eq-EVERYONE_CODE
returns-then-byte_at-eq-EVERYONE_CODE c = let args = c.args in
    parameter_held args.file.now args.function_at 0 args.arguments.now args.arguments.now args.k _ (omega (arith, c.byte_at.ensures.value, c.if-k-byte_at.true)) (sym c.byte_at-then-k-byte_at.ensures.value ∙ c.if-byte_at-eq-EVERYONE_CODE.true) c.number_at.ensures

pub returns-else-byte_at-eq-EVERYONE_CODE : goal.returns-else-byte_at-eq-EVERYONE_CODE
returns-else-byte_at-eq-EVERYONE_CODE c = let args = c.args in
    parameter_private args.file.now args.function_at 0 args.arguments.now args.arguments.now args.k (omega (arith, c.byte_at.ensures.value, c.if-k-byte_at.true)) (λ e. c.if-byte_at-eq-EVERYONE_CODE.false (c.byte_at-then-k-byte_at.ensures.value ∙ e))

pub returns-else-k-byte_at : goal.returns-else-k-byte_at
returns-else-k-byte_at c = let args = c.args in
    parameter_absent args.file.now args.function_at 0 args.arguments.now args.arguments.now args.k (omega (arith, c.byte_at.ensures.value, c.if-k-byte_at.false))
