-- The file lies inside a script.
use Rattle.kit.specs.Names.{arith}
use Rattle.rehearse_scripts.proofs.Reading.{no_file, addresses_inside, addresses_behind, file_part}
use Rattle.rehearse_scripts.proofs.file_of.Goals as goal

pub slice_bounds-result-end : goal.slice_bounds-result-end
slice_bounds-result-end c = let is-script = c.is_script.ensures in let if1-taken = c.if-is_script.true in
    let inside = addresses_inside _ _ is-script if1-taken _ c.read_script-script.ensures in
    omega (arith, addresses_behind _ _ is-script if1-taken _ c.read_script-script.ensures)

pub returns-then-is_script : goal.returns-then-is_script
returns-then-is_script c = file_part _ _ c.is_script.ensures c.if-is_script.true _ c.read_script-script.ensures

pub returns-else-is_script : goal.returns-else-is_script
returns-else-is_script c = no_file _ _ c.is_script.ensures c.if-is_script.false
