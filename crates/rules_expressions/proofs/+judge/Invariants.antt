-- `rules_expressions::judge` meets its contract, by the number of its node: each kind from the judgements of its parts.
use Rattle.rules_expressions.proofs.+judge.Given as goal

abbrev pub decreases-judge : goal.decreases-judge
decreases-judge l = l.n
