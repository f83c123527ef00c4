-- The parts of a call are read one after another.
use Rattle.kit.specs.Names.{arith}
use Rattle.rehearse_scripts.proofs.Reading.{call_starts, call_is}
use Rattle.rehearse_scripts.proofs.read_call.Goals as goal

pub returns : goal.returns
returns c = let read-script = c.read_script-script.ensures in
    let calls-end = c.calls_end-at.ensures in let start = call_starts _ _ _ _ read-script calls-end.value in
    call_is _ _ _ _ _ _ start c.byte_at-function.ensures.value c.byte_at-caller.ensures.value c.byte_at-arguments.ensures.value (omega (arith, calls-end.upper_bound, read-script.near))
