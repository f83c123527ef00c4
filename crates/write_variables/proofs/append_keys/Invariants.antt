-- The loop's invariant: the keys of the entries passed are appended and marked, and those of the entries left are left.
use Rattle.std.specs.Prelude.{◌≡◌}
use Rattle.kit.specs.Names.{[], length, drop}
use Rattle.definitions.specs.Basics.{flat_map}
use Rattle.definitions.specs.Rewriting.{each_once}
use Rattle.memory_append.specs.Append.{Appending}
use Rattle.write_variables.specs.PerEntry.{per_entry}
use Rattle.write_variables.specs.Variables.{key_code, once_unseen, seen_in}
use Rattle.write_variables.proofs.PerEntry.{made_of}
use Rattle.write_variables.proofs.append_keys.Given as goal

abbrev pub invariant-loop-entry : goal.invariant-loop-entry
invariant-loop-entry l =
    (Appending l.initial.out l.out l.from l.at (each_once [] (per_entry key_code l.log))
    (once_unseen (seen_in l.table) (flat_map (made_of key_code) (drop l.entry-index l.entries))))
    × (length l.out ≡ length l.initial.out) × (length l.table ≡ 256)
