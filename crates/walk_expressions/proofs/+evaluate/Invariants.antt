-- `walk_expressions::evaluate` meets its contract, by recursion with the node number falling.
use Rattle.walk_expressions.proofs.+evaluate.Given as goal

abbrev pub decreases-evaluate : goal.decreases-evaluate
decreases-evaluate l = l.n
