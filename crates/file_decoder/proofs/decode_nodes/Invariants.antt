-- The loop's invariant: with the nodes left, those stored are all.
use Rattle.std.specs.Prelude.{◌≡◌, ◌+◌, ◌-◌, ◌*◌, ◌/◌}
use Rattle.kit.specs.Names.{length}
use Rattle.memory_buffer.specs.Buffer.{stored}
use Rattle.file_decoder.specs.Decoding.{nodes_numbers}
use Rattle.file_decoder.proofs.decode_nodes.Given as goal

abbrev pub invariant-loop-i : goal.invariant-loop-i
invariant-loop-i l =
    (stored l.nodes (5 * l.i) (nodes_numbers (length l.initial.nodes / 5 - l.i) l.file (l.from + 8 * l.i))
    ≡ stored l.initial.nodes 0 (nodes_numbers (length l.initial.nodes / 5) l.file l.from))
    × (length l.nodes ≡ length l.initial.nodes)
