use Rattle.kit.specs.Names.{refl, arith}
use Rattle.file_decoded.proofs.number_from.Goals as goal

pub overflow_cast-result : goal.overflow_cast-result
overflow_cast-result c = omega (arith, c.shared_slice_known-1.given c.args.at)

pub returns : goal.returns
returns c = record { value = refl; upper_bound = omega (arith, c.shared_slice_known-1.given c.args.at) }
