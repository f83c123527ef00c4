-- Each turn looks at one field more.
use Rattle.std.specs.Prelude.{◌≡◌, ◌+◌, ◌≤◌}
use Rattle.definitions.specs.Basics.{count_if}
use Rattle.definitions.specs.ContractFile.{is_final}
use Rattle.file_accepted.specs.Context.{fields_in}
use Rattle.deploy_17_addresses.proofs.Addresses.{finals_from}
use Rattle.deploy_17_addresses.proofs.final_count.Given as goal

abbrev pub invariant-loop-f : goal.invariant-loop-f
invariant-loop-f l =
    (l.finals ≤ l.f) × (l.finals + finals_from (fields_in l.file) l.f ≡ count_if (λ d. is_final d.shape) (fields_in l.file))
