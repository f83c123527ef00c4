-- What is lent is as long as counted.
use Rattle.kit.specs.Names.{arith, length-take}
use Rattle.test_ledgers.proofs.disclosures.is_told.Goals as goal

pub slice_bounds-disclosed-end : goal.slice_bounds-disclosed-end
slice_bounds-disclosed-end c = simp length-take (omega arith)

pub slice_bounds-are_values-end : goal.slice_bounds-are_values-end
slice_bounds-are_values-end c = simp length-take (omega arith)

pub are_values-same-requires : goal.are_values-same-requires
are_values-same-requires c = (omega arith, simp length-take (omega arith))
