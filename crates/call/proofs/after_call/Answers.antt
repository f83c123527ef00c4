-- The parts make the struct.
use Rattle.call.proofs.Together.{put, done_put, failed_put}
use Rattle.call.proofs.after_call.Goals as goal

pub returns-then-made-eq-DONE : goal.returns-then-made-eq-DONE
unfolding put
returns-then-made-eq-DONE c = done_put c.args.l c.args.made _ _ _ _ _ c.filled-set.ensures _ c.if-made-eq-DONE.true c.filled-moved.ensures

pub returns-else-made-eq-DONE : goal.returns-else-made-eq-DONE
unfolding put
returns-else-made-eq-DONE c = failed_put c.args.l c.args.made _ _ _ _ _ c.filled-set.ensures c.if-made-eq-DONE.false
