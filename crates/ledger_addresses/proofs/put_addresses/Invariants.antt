-- The loop's invariant: the codes passed have their addresses.
use Rattle.ledger_addresses.proofs.AddressesByCode.{Placed}
use Rattle.ledger_addresses.proofs.put_addresses.Given as goal

abbrev pub invariant-loop-code : goal.invariant-loop-code
invariant-loop-code l = Placed l.file l.function_at l.caller l.arguments l.places l.out l.code
