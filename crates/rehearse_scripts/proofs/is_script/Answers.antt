-- The script ends where the bytes do.
use Rattle.rehearse_scripts.proofs.Reading.{script_tested}
use Rattle.rehearse_scripts.proofs.is_script.Goals as goal

pub returns : goal.returns
returns c = script_tested _ _ _ c.read_script-script.ensures c.calls_end.ensures.value
