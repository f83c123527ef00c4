-- The loop's invariant: the variables of the entries passed are appended, and those of the entries left are left.
use Rattle.std.specs.Prelude.{◌≡◌}
use Rattle.kit.specs.Names.{length, drop}
use Rattle.definitions.specs.Basics.{flat_map}
use Rattle.memory_append.specs.Append.{Appending}
use Rattle.write_variables.specs.PerEntry.{per_entry}
use Rattle.write_variables.specs.Variables.{variable_of}
use Rattle.write_variables.proofs.PerEntry.{made_of}
use Rattle.write_variables.proofs.append_variables.Given as goal

abbrev pub invariant-loop-entry : goal.invariant-loop-entry
invariant-loop-entry l =
    (Appending l.initial.out l.out l.from l.at (per_entry variable_of l.log) (flat_map (made_of variable_of)
    (drop l.entry-index l.entries)))
    × (length l.out ≡ length l.initial.out)
