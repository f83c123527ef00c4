-- The parts are read one after another.
use Rattle.rehearse_scripts.proofs.Reading.{script_is}
use Rattle.rehearse_scripts.proofs.read_script.Goals as goal

pub returns : goal.returns
returns c = let two-bytes-at = c.two_bytes_at-file_end.ensures in let byte_at = c.byte_at.ensures in
    script_is _ _ _ _ _ two-bytes-at.value byte_at.value c.byte_at-party.ensures.value c.byte_at-calls.ensures.value two-bytes-at.upper_bound byte_at.upper_bound
