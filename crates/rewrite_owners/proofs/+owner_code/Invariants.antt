-- `rewrite_owners::owner_code` meets its contract, by recursion with the node number falling.
use Rattle.rewrite_owners.proofs.+owner_code.Given as goal

abbrev pub decreases-owner_code : goal.decreases-owner_code
decreases-owner_code l = l.n
