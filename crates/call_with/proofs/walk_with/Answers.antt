-- The addresses are those of the names in the call.
use Rattle.call_with.proofs.walk_with.Goals as goal

pub returns : goal.returns
returns c = let named = c.call_addresses.ensures.addresses in
    record { ran = rw named at c.walk_called.ensures.ran }
