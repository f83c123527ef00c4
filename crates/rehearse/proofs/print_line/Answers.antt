-- What is lent of the view and of the line is as long as counted.
use Rattle.kit.specs.Names.{arith, length-take}
use Rattle.rehearse.proofs.print_line.Goals as goal

pub slice_bounds-write_line-end-2 : goal.slice_bounds-write_line-end-2
slice_bounds-write_line-end-2 c = simp length-take (omega arith)

pub slice_bounds-print-end-3 : goal.slice_bounds-print-end-3
slice_bounds-print-end-3 c = simp length-take (omega arith)
