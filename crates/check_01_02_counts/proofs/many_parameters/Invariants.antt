use Rattle.std.specs.Prelude.{◌≡◌, ◌+◌, ◌-◌, ◌*◌, ◌≤◌}
use Rattle.definitions.specs.Basics.{any}
use Rattle.definitions.specs.ContractFile.{function_records}
use Rattle.check_01_02_counts.proofs.ManyParameters.{has_many_parameters}
use Rattle.check_01_02_counts.proofs.many_parameters.Given as goal

abbrev pub invariant-loop : goal.invariant-loop
invariant-loop l =
    (any has_many_parameters (function_records (l.count - l.counter) l.file l.at)
    ≡ any has_many_parameters (function_records l.count l.file l.from))
    × (l.at + 513 * (l.count - l.counter) ≤ 200000)
