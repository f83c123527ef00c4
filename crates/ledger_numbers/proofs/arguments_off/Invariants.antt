-- The loop's invariant: the arguments left are off as all are.
use Rattle.std.specs.Prelude.{◌≡◌}
use Rattle.kit.specs.Names.{drop}
use Rattle.file_accepted.specs.Context.{parameters_in}
use Rattle.ledger_numbers.specs.Arguments.{any_outside}
use Rattle.ledger_numbers.proofs.arguments_off.Given as goal

abbrev pub invariant-loop-k : goal.invariant-loop-k
invariant-loop-k l =
    any_outside (drop l.k (parameters_in l.file l.function_at)) (drop l.k l.arguments)
    ≡ any_outside (parameters_in l.file l.function_at) l.arguments
