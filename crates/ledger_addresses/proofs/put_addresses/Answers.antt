use Rattle.kit.specs.Names.{refl, arith}
use Rattle.ledger_addresses.proofs.AddressesByCode.{placed_none, placed_more, placed_all}
use Rattle.ledger_addresses.proofs.put_addresses.Goals as goal

pub loop-code-init : goal.loop-code-init
loop-code-init c = placed_none _ _ _ _ _ _ c.requires.room

pub loop-code-preserved : goal.loop-code-preserved
loop-code-preserved c = let args = c.args in
    placed_more args.file.now args.function_at args.caller args.arguments.now args.places.now _ _ c.loop-code.code _ c.loop-code.invariant
    (omega (arith, c.loop-code.invariant.room)) c.address_of_code.ensures refl

pub returns : goal.returns
returns c = placed_all _ _ _ _ _ _ c.loop-code.code c.requires.names (omega (arith, c.loop-code.invariant.room)) c.loop-code.invariant
