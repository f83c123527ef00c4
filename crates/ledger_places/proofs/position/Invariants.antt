use Rattle.std.specs.Prelude.{◌≡◌, ◌+◌, ◌*◌, ◌-◌, ◌≤◌}
use Rattle.kit.specs.Names.{drop}
use Rattle.definitions.specs.Original.{position}
use Rattle.file_accepted.specs.Context.{fields_in}
use Rattle.ledger_places.proofs.position.Given as goal

abbrev pub invariant-loop-i : goal.invariant-loop-i
invariant-loop-i l =
    (position (drop l.i (fields_in l.file)) (l.f - l.i) l.at ≡ position (fields_in l.file) l.f l.key)
    × (l.at ≤ 4294967295 + 16 * l.i)
