use Rattle.call_honest.proofs.HonestParts.{log_ready, log_put}
use Rattle.call_honest.proofs.log_body.Goals as goal

pub function_log-end-requires : goal.function_log-end-requires
function_log-end-requires c = log_ready _ _ _ _ c.requires

pub returns : goal.returns
returns c = log_put _ _ _ _ c.requires _ _ c.function_log-end.ensures
