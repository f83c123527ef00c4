-- There is a number left.
use Rattle.kit.specs.Names.{arith}
use Rattle.call_numbers.proofs.serial_call.Goals as goal

pub overflow_add-result : goal.overflow_add-result
overflow_add-result c = omega arith

pub returns : goal.returns
returns c = omega arith
