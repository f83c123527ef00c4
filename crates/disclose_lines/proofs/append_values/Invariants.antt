-- Each turn appends one value more; the room that is left is counted in values.
use Rattle.std.specs.Prelude.{◌+◌, ◌*◌, ◌-◌, ◌≤◌}
use Rattle.kit.specs.Names.{length, drop}
use Rattle.definitions.specs.Basics.{flat_map}
use Rattle.memory_append.specs.Append.{Appending}
use Rattle.disclose_lines.specs.Lines.{spaced_value}
use Rattle.disclose_lines.proofs.append_values.Given as goal

abbrev pub invariant-loop-value : goal.invariant-loop-value
invariant-loop-value l = Appending l.initial.out l.out l.from l.at (flat_map spaced_value l.values) (flat_map spaced_value (drop l.value-index l.values))
    × (l.at + 21 * (length l.values - l.value-index) ≤ length l.out)
