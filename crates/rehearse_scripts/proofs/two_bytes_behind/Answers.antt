-- Two bytes past the end read as 0.
use Rattle.std.specs.Prelude.{◌+◌}
use Rattle.kit.specs.Names.{arith}
use Rattle.file_bytes.proofs.ReadingSteps.{byte_at_past}
use Rattle.rehearse_scripts.proofs.two_bytes_behind.Goals as goal

pub returns-then-bytes-lt2 : goal.returns-then-bytes-lt2
returns-then-bytes-lt2 c = let low = byte_at_past c.args.bytes.now (c.args.at + 2) (omega arith) in
    let high = byte_at_past c.args.bytes.now (c.args.at + 2 + 1) (omega arith) in
    record { value = omega arith; upper_bound = omega arith }

pub returns-then-bytes-at : goal.returns-then-bytes-at
returns-then-bytes-at c = let low = byte_at_past c.args.bytes.now (c.args.at + 2) (omega arith) in
    let high = byte_at_past c.args.bytes.now (c.args.at + 2 + 1) (omega arith) in
    record { value = omega arith; upper_bound = omega arith }
