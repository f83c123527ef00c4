-- The statements of the root that is read.
use Rattle.rewrite_statements.proofs.Roots.{root_ready, root_logged}
use Rattle.rewrite_statements.proofs.function_log.Goals as goal

pub statement_log-requires : goal.statement_log-requires
statement_log-requires c = root_ready _ _ _ _ c.function_end.ensures.value c.two_bytes_at-root.ensures.value _ _ c.requires

pub returns : goal.returns
returns c = let function-end = c.function_end.ensures.value in
    root_logged _ _ _ _ function-end c.two_bytes_at-root.ensures.value _ _ _ _ c.statement_log.ensures
