-- An argument stands behind those before it.
use Rattle.rehearse_scripts.proofs.Reading.{argument_is}
use Rattle.rehearse_scripts.proofs.argument.Goals as goal

pub returns : goal.returns
returns c = argument_is _ _ _ _ _ c.read_call-call.ensures c.four_bytes_at.ensures
