-- The parameters are tested, then the variables.
use Rattle.kit.specs.Names.{sym, ◌∙◌, eq-eqb, ne_eqb}
use Rattle.file_accepted.proofs.Sources.{context_with}
use Rattle.ledger_struct.specs.Ledgers.{ledger_from}
use Rattle.ledger_18_parts.proofs.Files.{room_at, parameters_few}
use Rattle.ledger_18_parts.proofs.WellFormedParts.{done_is}
use Rattle.ledger_18_done.proofs.is_after_done.Goals as goal

pub returns-then-last-ne-DONE : goal.returns-then-last-ne-DONE
unfolding ledger_from
returns-then-last-ne-DONE c = λ places plain. rw (ne_eqb _ _ c.if-last-ne-DONE.true)

pub parameters_fit-requires : goal.parameters_fit-requires
parameters_fit-requires c = (
  c.function_start-function_at.ensures.upper_bound,
  parameters_few c.args.file.now c.requires.0 c.args.last.function _ c.requires.1 c.function_start-function_at.ensures.value,
)

pub invariant_of-function : goal.invariant_of-function
invariant_of-function c =
    let room = room_at c.args.file.now c.requires.0 c.args.last.function _ c.requires.1 c.function_start-function_at.ensures.value in
    record { context = context_with _ _ _ room.context c.decode_source-count.ensures.source }

pub done_variables_fit-requires : goal.done_variables_fit-requires
done_variables_fit-requires c =
    let room = room_at c.args.file.now c.requires.0 c.args.last.function _ c.requires.1 c.function_start-function_at.ensures.value in
    record { function_room = room; parameters_len_bound = c.requires.2 }

pub returns-then-parameters_fit : goal.returns-then-parameters_fit
unfolding ledger_from
returns-then-parameters_fit c = λ places plain. let a = c.args in
    sym
    (done_is (ledger_from a.file.now a.last a.parameters.now a.variables.now places) _ c.function_start-function_at.ensures.value c.requires.1 a.numbers.now plain _
    c.parameters_fit.ensures ∙ rw (eq-eqb _ _ c.if-last-ne-DONE.false, c.if-parameters_fit.true, ← c.done_variables_fit.ensures))

pub returns-else-parameters_fit : goal.returns-else-parameters_fit
unfolding ledger_from
returns-else-parameters_fit c = λ places plain. let a = c.args in
    sym
    (done_is (ledger_from a.file.now a.last a.parameters.now a.variables.now places) _ c.function_start-function_at.ensures.value c.requires.1 a.numbers.now plain _
    c.parameters_fit.ensures ∙ rw (eq-eqb _ _ c.if-last-ne-DONE.false, c.if-parameters_fit.false))
