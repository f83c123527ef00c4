use Rattle.kit.specs.Names.{arith}
use Rattle.rules_meet.proofs.Meeting.{met}
use Rattle.rules_meet.proofs.meet.Goals as goal

pub returns : goal.returns
returns c = let (whole, also, long) = c.requires in
    met _ _ whole also long _ _ _ _ c.loop-i.invariant c.loop-i-2.invariant (omega arith) (omega arith)
