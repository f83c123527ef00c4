use Rattle.std.specs.Prelude.{◌≡◌, ◌+◌, ◌-◌, ◌*◌, ◌≤◌}
use Rattle.definitions.specs.ContractFile.{functions_end}
use Rattle.file_accepted.specs.Functions.{function_start}
use Rattle.file_functions.proofs.function_start.Given as goal

abbrev pub invariant-loop : goal.invariant-loop
invariant-loop l =
    (functions_end (l.f - l.counter) l.file l.at ≡ function_start l.file l.f) × (l.at + 513 * (l.f - l.counter) ≤ 767 + 513 * 255)
