-- The variables by the addresses of the names in the call.
use Rattle.kit.specs.Names.{ap, sym, ◌∙◌, List, map, ℕ}
use Rattle.definitions.specs.ContractFile.{Name}
use Rattle.definitions.specs.Original.{address_in}
use Rattle.definitions.specs.Ledger.{all_fit}
use Rattle.file_accepted.specs.Context.{scope_in}
use Rattle.ledger_contents.specs.Contents.{contents_of}
use Rattle.ledger_18_forms.specs.Forms.{fits_or_zero}
use Rattle.write_function_room.specs.Functions.{written_in}
use Rattle.ledger_18_variable.specs.Variables.{variable_form}
use Rattle.ledger_18_parts.proofs.Flats.{numbers_long}
use Rattle.ledger_18_done.proofs.done_variables_fit.Goals as goal

pub slice_bounds-put_addresses-end : goal.slice_bounds-put_addresses-end
slice_bounds-put_addresses-end c = sym (numbers_long _ _ _ c.plain_numbers.ensures)

pub returns : goal.returns
returns c = let a = c.args in
    let file = a.function.now.file.now in let scope = scope_in file a.function.now.at in c.variables_fit.ensures
    ∙ ap (λ (address : Name → ℕ). all_fit fits_or_zero (map (variable_form scope address) (written_in file a.function.now.at).variables) (contents_of a.variables.now))
    (c.put_addresses.ensures.addresses ∙ ap (λ (arguments : List ℕ). address_in scope a.caller arguments a.numbers.now) c.plain_numbers.ensures.first)
