-- `ledger_types::type_code` meets its contract, by recursion with the node number falling.
use Rattle.ledger_types.proofs.+type_code.Given as goal

abbrev pub decreases-type_code : goal.decreases-type_code
decreases-type_code l = l.n
