-- `write_steps::put_steps` meets its contract, by recursion with the entries left falling.
use Rattle.write_steps.proofs.+put_steps.Given as goal

abbrev pub decreases-put_steps : goal.decreases-put_steps
decreases-put_steps l = l.run.left
