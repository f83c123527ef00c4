-- The addresses lie inside a script.
use Rattle.rehearse_scripts.proofs.Reading.{no_addresses, addresses_inside, addresses_part}
use Rattle.rehearse_scripts.proofs.addresses_of.Goals as goal

pub slice_bounds-result-end : goal.slice_bounds-result-end
slice_bounds-result-end c = addresses_inside _ _ c.is_script.ensures c.if-is_script.true _ c.read_script-script.ensures

pub returns-then-is_script : goal.returns-then-is_script
returns-then-is_script c = addresses_part _ _ c.is_script.ensures c.if-is_script.true _ c.read_script-script.ensures

pub returns-else-is_script : goal.returns-else-is_script
returns-else-is_script c = no_addresses _ _ c.is_script.ensures c.if-is_script.false
