-- What is lent of the line is as long as counted.
use Rattle.kit.specs.Names.{arith, length-take}
use Rattle.disclose.proofs.print_line.Goals as goal

pub slice_bounds-print-end-2 : goal.slice_bounds-print-end-2
slice_bounds-print-end-2 c = simp length-take (omega arith)
