use Rattle.std.specs.Prelude.{◌≡◌, ◌+◌, ◌-◌, ◌*◌, ◌≤◌}
use Rattle.definitions.specs.ContractFile.{functions_end}
use Rattle.file_bytes.proofs.functions_end.Given as goal

abbrev pub invariant-loop : goal.invariant-loop
invariant-loop l =
    (functions_end (l.count - l.counter) l.file l.at ≡ functions_end l.count l.file l.from)
    × (l.at + 513 * (l.count - l.counter) ≤ l.from + 513 * l.count)
