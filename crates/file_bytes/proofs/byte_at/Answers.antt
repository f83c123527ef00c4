use Rattle.kit.specs.Names.{refl, sym, arith}
use Rattle.file_bytes.proofs.ReadingSteps.{byte_at_past}
use Rattle.file_bytes.proofs.byte_at.Goals as goal

pub overflow_cast-result : goal.overflow_cast-result
overflow_cast-result c = omega (arith, c.shared_slice_known-1.given c.args.at)

pub returns-then-at-file : goal.returns-then-at-file
returns-then-at-file c = record { value = refl; upper_bound = omega (arith, c.shared_slice_known-1.given c.args.at) }

pub returns-else-at-file : goal.returns-else-at-file
returns-else-at-file c = let args = c.args in record { value = sym (byte_at_past args.file.now args.at c.if-at-file.false); upper_bound = omega arith }
