-- The loop's invariant: the first contents are the first honest parameters.
use Rattle.std.specs.Prelude.{◌≡◌}
use Rattle.kit.specs.Names.{take}
use Rattle.definitions.specs.Ledger.{honest_parameters}
use Rattle.file_accepted.specs.Context.{parameters_in}
use Rattle.ledger_contents.specs.Contents.{contents_of}
use Rattle.honest_parameters.proofs.put_parameters.Given as goal

abbrev pub invariant-loop-k : goal.invariant-loop-k
invariant-loop-k l =
    take l.k (contents_of l.flat)
    ≡ take l.k (honest_parameters l.caller l.call 0 (parameters_in l.file l.function_at) l.arguments)
