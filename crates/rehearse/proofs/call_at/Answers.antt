-- As many arguments are lent as the call has.
use Rattle.kit.specs.Names.{arith, length-take}
use Rattle.rehearse.proofs.call_at.Goals as goal

pub slice_bounds-call-end : goal.slice_bounds-call-end
slice_bounds-call-end c = simp length-take (omega arith)
