-- `rules_learning::learn` meets its contract, by the number of its node: an equality joins two names, an "and" learns from both halves.
use Rattle.rules_learning.proofs.+learn.Given as goal

abbrev pub decreases-learn : goal.decreases-learn
decreases-learn l = l.n
