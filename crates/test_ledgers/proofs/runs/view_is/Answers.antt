-- What is lent of the view is as long as counted.
use Rattle.kit.specs.Names.{arith, length-take}
use Rattle.test_ledgers.proofs.runs.view_is.Goals as goal

pub slice_bounds-same_bytes-end : goal.slice_bounds-same_bytes-end
slice_bounds-same_bytes-end c = simp length-take (omega arith)
