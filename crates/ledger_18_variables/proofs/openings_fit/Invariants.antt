-- Each turn tests one private parameter more, or passes a public one.
use Rattle.std.specs.Prelude.{◌≡◌, ◌≤◌}
use Rattle.kit.specs.Names.{get_or, drop}
use Rattle.file_accepted.specs.Context.{parameters_in}
use Rattle.ledger_contents.specs.Contents.{contents_of}
use Rattle.ledger_18_forms.specs.Forms.{fits_or_zero, front_fits}
use Rattle.ledger_18_variable.specs.Variables.{opening_forms}
use Rattle.ledger_18_variables.proofs.openings_fit.Given as goal

abbrev pub invariant-loop-k : goal.invariant-loop-k
invariant-loop-k l = (l.p ≤ l.k)
    × (front_fits fits_or_zero (opening_forms (parameters_in l.file l.function_at) (get_or l.addresses 1 0) l.k) (drop l.p (contents_of l.flat))
    ≡ front_fits fits_or_zero (opening_forms (parameters_in l.file l.function_at) (get_or l.addresses 1 0) 0) (contents_of l.flat))
