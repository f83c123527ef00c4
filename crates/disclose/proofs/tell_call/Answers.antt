-- What is lent of the arguments and of the values is as long as counted.
use Rattle.kit.specs.Names.{arith, length-take}
use Rattle.disclose.proofs.tell_call.Goals as goal

pub slice_bounds-disclosed-end : goal.slice_bounds-disclosed-end
slice_bounds-disclosed-end c = simp length-take (omega arith)

pub slice_bounds-print_line-end : goal.slice_bounds-print_line-end
slice_bounds-print_line-end c = simp length-take (omega arith)
