use Rattle.call_19_arguments.proofs.Arguments.{off_there}
use Rattle.call_19_arguments.proofs.arguments_off_for.Goals as goal

pub returns : goal.returns
returns c = let args = c.args in
    off_there args.file.now args.arguments.now _ _ _ c.function_start-function_at.ensures.value c.arguments_off.ensures
