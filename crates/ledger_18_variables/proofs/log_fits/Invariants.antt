-- Each turn tests the variable of one entry more, or passes an entry that makes none.
use Rattle.std.specs.Prelude.{◌≡◌, ◌+◌, ◌*◌, ◌≤◌}
use Rattle.kit.specs.Names.{drop}
use Rattle.definitions.specs.Ledger.{all_fit}
use Rattle.ledger_contents.specs.Contents.{contents_of}
use Rattle.ledger_18_forms.specs.Forms.{fits_or_zero}
use Rattle.ledger_18_variable.specs.Variables.{logged_forms}
use Rattle.ledger_18_variables.proofs.log_fits.Given as goal

abbrev pub invariant-loop-e : goal.invariant-loop-e
invariant-loop-e l = (l.p ≤ l.from + l.e)
    × (all_fit fits_or_zero (logged_forms l.function.file.now l.function.at l.addresses (drop (5 * l.e) l.log)) (drop l.p (contents_of l.flat))
    ≡ all_fit fits_or_zero (logged_forms l.function.file.now l.function.at l.addresses l.log) (drop l.from (contents_of l.flat)))
