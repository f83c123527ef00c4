-- The loop's invariant: so many constraints are stored.
use Rattle.std.specs.Prelude.{◌≡◌}
use Rattle.kit.specs.Names.{length}
use Rattle.memory_buffer.specs.Buffer.{stored}
use Rattle.walk_function_nodes.specs.Functions.{opening_numbers}
use Rattle.walk_function_nodes.proofs.put_openings.Given as goal

abbrev pub invariant-loop-i : goal.invariant-loop-i
invariant-loop-i l = (length l.numbers ≡ length l.initial.numbers) × (l.numbers ≡ stored l.initial.numbers 0 (opening_numbers 0 l.i))
