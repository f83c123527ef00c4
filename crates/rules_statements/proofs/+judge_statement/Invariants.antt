-- By the number of its node: each kind from what its parts give.
use Rattle.rules_statements.proofs.+judge_statement.Given as goal

abbrev pub decreases-judge_statement : goal.decreases-judge_statement
decreases-judge_statement l = l.n
