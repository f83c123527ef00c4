-- The events of the expression, and their end.
use Rattle.rewrite_simple_statements.proofs.Ends.{parts_ready, end_ready, end_written}
use Rattle.rewrite_simple_statements.proofs.condition_log.Goals as goal

pub body_log-q-requires : goal.body_log-q-requires
body_log-q-requires c = parts_ready _ _ _ _ _ c.requires

pub end_log-requires : goal.end_log-requires
end_log-requires c = end_ready _ _ _ _ _ c.requires _ _ c.body_log-q.ensures

pub returns : goal.returns
returns c = end_written _ _ _ _ _ c.requires _ _ c.body_log-q.ensures _ _ c.end_log.ensures
