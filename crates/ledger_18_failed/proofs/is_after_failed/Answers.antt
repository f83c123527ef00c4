-- The public parameters are tested; variables are not shown.
use Rattle.kit.specs.Names.{sym, ◌∙◌, [], eq-eqb, ne_eqb}
use Rattle.ledger_struct.specs.Ledgers.{ledger_from}
use Rattle.ledger_18_parts.proofs.Files.{parameters_few}
use Rattle.ledger_18_parts.proofs.Flats.{none_shown}
use Rattle.ledger_18_parts.proofs.WellFormedParts.{failed_is}
use Rattle.ledger_18_failed.proofs.is_after_failed.Goals as goal

pub returns-then-last-ne-FAILED : goal.returns-then-last-ne-FAILED
unfolding ledger_from
returns-then-last-ne-FAILED c = rw (ne_eqb _ _ c.if-last-ne-FAILED.true)

pub parameters_fit-requires : goal.parameters_fit-requires
parameters_fit-requires c = (
  c.function_start-function_at.ensures.upper_bound,
  parameters_few c.args.file.now c.requires.0 c.args.last.function _ c.requires.1 c.function_start-function_at.ensures.value,
)

pub returns-then-parameters_fit : goal.returns-then-parameters_fit
unfolding ledger_from
returns-then-parameters_fit c = let a = c.args in
    sym
    (failed_is (ledger_from a.file.now a.last a.parameters.now a.variables.now []) _ c.function_start-function_at.ensures.value c.requires.1 _
    c.parameters_fit.ensures
    ∙ rw (eq-eqb _ _ c.if-last-ne-FAILED.false, c.if-parameters_fit.true, none_shown a.variables.now))

pub returns-else-parameters_fit : goal.returns-else-parameters_fit
unfolding ledger_from
returns-else-parameters_fit c = let a = c.args in
    sym
    (failed_is (ledger_from a.file.now a.last a.parameters.now a.variables.now []) _ c.function_start-function_at.ensures.value c.requires.1 _
    c.parameters_fit.ensures
    ∙ rw (eq-eqb _ _ c.if-last-ne-FAILED.false, c.if-parameters_fit.false))
