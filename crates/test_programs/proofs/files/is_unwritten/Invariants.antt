-- What is left decides, as long as nothing before it was written.
use Rattle.std.specs.Prelude.{◌≡◌, ◌&&◌}
use Rattle.kit.specs.Names.{length}
use Rattle.test_shared.specs.Bytes.{same_bytes}
use Rattle.test_programs.specs.Outputs.{unwritten}
use Rattle.test_programs.proofs.Outputs.{left_unwritten}
use Rattle.test_programs.proofs.files.is_unwritten.Given as goal

abbrev pub invariant-loop-byte : goal.invariant-loop-byte
invariant-loop-byte l = l.unwritten && left_unwritten l.bytes l.byte-index ≡ same_bytes l.bytes (unwritten (length l.bytes))
