-- `ledger_circuits::circuit_value` meets its contract, by recursion with the node number falling.
use Rattle.ledger_circuits.proofs.+circuit_value.Given as goal

abbrev pub decreases-circuit_value : goal.decreases-circuit_value
decreases-circuit_value l = l.n
