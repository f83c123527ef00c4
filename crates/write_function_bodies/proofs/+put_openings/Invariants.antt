-- The parameters one after another: as many as are left fall.
use Rattle.write_function_bodies.proofs.+put_openings.Given as goal

abbrev pub decreases-put_openings : goal.decreases-put_openings
decreases-put_openings l = l.rest.left
