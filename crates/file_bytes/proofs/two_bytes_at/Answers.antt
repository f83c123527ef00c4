use Rattle.std.specs.Prelude.{◌+◌}
use Rattle.kit.specs.Names.{arith}
use Rattle.file_bytes.proofs.ReadingSteps.{byte_at_past}
use Rattle.file_bytes.proofs.two_bytes_at.Goals as goal

pub returns-else-at-file : goal.returns-else-at-file
returns-else-at-file c = let args = c.args in let low = byte_at_past args.file.now args.at c.if-at-file.false in
    let high = byte_at_past args.file.now (args.at + 1) (omega arith) in record { value = omega arith; upper_bound = omega arith }
