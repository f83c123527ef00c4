-- The events of the statement's expressions, and their end.
use Rattle.rewrite_simple_statements.proofs.Ends.{parts_ready, end_ready, end_written, simple_ready, simple_logged}
use Rattle.rewrite_simple_statements.proofs.simple_log.Goals as goal

pub parts_log-q-requires : goal.parts_log-q-requires
parts_log-q-requires c = let (simple, ready) = c.requires in
    (simple, parts_ready _ _ _ _ _ (simple_ready _ _ c.args.guard _ simple _ _ ready))

pub end_log-requires : goal.end_log-requires
end_log-requires c = let (simple, ready) = c.requires in
    end_ready _ _ _ _ _ (simple_ready _ _ c.args.guard _ simple _ _ ready) _ _ c.parts_log-q.ensures

pub returns : goal.returns
returns c = let (simple, ready) = c.requires in
    let guard = c.args.guard in
    let logged = end_written _ _ _ _ _ (simple_ready _ _ guard _ simple _ _ ready) _ _ c.parts_log-q.ensures _ _ c.end_log.ensures in
    simple_logged _ _ guard _ simple _ _ _ _ logged
