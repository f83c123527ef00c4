-- Five bytes are stored.
use Rattle.kit.specs.Names.{arith, length-set}
use Rattle.view_bytes.specs.Views.{head_bytes}
use Rattle.view_bytes.proofs.Views.{head_set}
use Rattle.view_bytes.proofs.put_head.Goals as goal

pub bounds-out-1 : goal.bounds-out-1
bounds-out-1 c = simp length-set (omega arith)

pub bounds-out-2 : goal.bounds-out-2
bounds-out-2 c = simp length-set (omega arith)

pub bounds-out-3 : goal.bounds-out-3
bounds-out-3 c = simp length-set (omega arith)

pub returns : goal.returns
unfolding head_bytes
returns c = head_set _ _ _ _ _ _ c.requires
