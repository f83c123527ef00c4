-- The call is not refused, so its function stands in the file.
use Rattle.kit.specs.Names.{ap, ◌∙◌, map}
use Rattle.definitions.specs.Ledger.{opened_number}
use Rattle.ledger_numbers.proofs.Numbers.{numbers_whole}
use Rattle.call_honest.proofs.Calling.{called_on, standing_on}
use Rattle.disclose_call.proofs.Bodies.{called_ready, called_disclosed}
use Rattle.disclose_call.proofs.disclose_on.Goals as goal

pub disclose_body-requires : goal.disclose_body-requires
disclose_body-requires c = called_ready _ _ _ _ _ _ (called_on _ _ _ _ _ _ _ _ c.requires.0 _ c.function_start-function_at.ensures.value) _ _ _ (numbers_whole _ _ _ _ c.requires.1 c.opened_numbers.ensures
    ∙ ap (map opened_number) (standing_on _ _ _ _ _ _ _ _ c.requires.0 _ c.function_start-function_at.ensures.value).stand) c.requires.2

pub returns : goal.returns
returns c = called_disclosed _ _ _ _ _ _ (called_on _ _ _ _ _ _ _ _ c.requires.0 _ c.function_start-function_at.ensures.value) _ _ _ _ _ (numbers_whole _ _ _ _ c.requires.1 c.opened_numbers.ensures
    ∙ ap (map opened_number) (standing_on _ _ _ _ _ _ _ _ c.requires.0 _ c.function_start-function_at.ensures.value).stand) c.disclose_body.ensures
