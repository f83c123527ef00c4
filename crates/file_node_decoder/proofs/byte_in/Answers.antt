use Rattle.kit.specs.Names.{refl, arith}
use Rattle.file_node_decoder.proofs.byte_in.Goals as goal

pub overflow_cast-result : goal.overflow_cast-result
overflow_cast-result c = omega (arith, c.shared_slice_known-1.given c.args.at)

pub returns : goal.returns
returns c = (refl, omega (arith, c.shared_slice_known-1.given c.args.at))
