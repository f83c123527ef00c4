-- No script, a deployment that is refused, or the lines.
use Rattle.kit.specs.Names.{sym, ◌∙◌, arith}
use Rattle.test_programs.proofs.Rehearsals.{no_script, deploy_refused, deploy_accepted}
use Rattle.test_programs.proofs.programs.rehearses.Goals as goal

pub returns-then-not-is_script : goal.returns-then-not-is_script
returns-then-not-is_script c = no_script _ _ _ (sym c.is_script.ensures ∙ c.if-not-is_script.true) c.same_bytes.ensures

pub returns-then-deployment-gt0 : goal.returns-then-deployment-gt0
returns-then-deployment-gt0 c = deploy_refused _ _ _ (sym c.is_script.ensures ∙ c.if-not-is_script.false) _ _ _ c.file_of.ensures
    c.addresses_of.ensures c.deploy-deployment.ensures _ _ _ (λ z. omega (arith, c.if-deployment-gt0.true)) c.answered-end.ensures
    c.is_printed.ensures

pub returns : goal.returns
returns c = deploy_accepted _ _ _ (sym c.is_script.ensures ∙ c.if-not-is_script.false) _ _ _ c.file_of.ensures
    c.addresses_of.ensures c.deploy-deployment.ensures (omega (arith, c.if-deployment-gt0.false)) c.runs.ensures
