-- `write_steps::close_steps` meets its contract, by recursion with the count falling.
use Rattle.write_steps.proofs.+close_steps.Given as goal

abbrev pub decreases-close_steps : goal.decreases-close_steps
decreases-close_steps l = l.count
