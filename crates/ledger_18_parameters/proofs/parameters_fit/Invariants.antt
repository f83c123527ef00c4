-- Each turn tests one parameter more, or passes a hidden one.
use Rattle.std.specs.Prelude.{◌≡◌, ◌≤◌}
use Rattle.kit.specs.Names.{drop}
use Rattle.definitions.specs.Ledger.{fits, all_fit}
use Rattle.file_accepted.specs.Context.{parameters_in}
use Rattle.ledger_contents.specs.Contents.{contents_of}
use Rattle.ledger_18_parameters.specs.Parameters.{forms_of_parameters, shown_forms}
use Rattle.ledger_18_parameters.proofs.parameters_fit.Given as goal

abbrev pub invariant-loop-k : goal.invariant-loop-k
invariant-loop-k l = (l.p ≤ l.k)
    × (all_fit fits (shown_forms l.all l.caller (drop l.k (parameters_in l.file l.function_at))) (drop l.p (contents_of l.flat))
    ≡ all_fit fits (forms_of_parameters l.all l.caller (parameters_in l.file l.function_at)) (contents_of l.flat))
