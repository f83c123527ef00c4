-- The loop's invariant: the bytes passed are stored, and the slice keeps its length.
use Rattle.std.specs.Prelude.{◌≡◌}
use Rattle.kit.specs.Names.{length, take}
use Rattle.memory_buffer.specs.Buffer.{stored}
use Rattle.file_node_decoder.specs.Numbers.{bytes_at}
use Rattle.file_node_decoder.proofs.copy_bytes.Given as goal

abbrev pub invariant-loop-i : goal.invariant-loop-i
invariant-loop-i l =
    (l.numbers ≡ stored l.initial.numbers l.at (take l.i (bytes_at l.file l.from l.count))) × (length l.numbers ≡ length l.initial.numbers)
