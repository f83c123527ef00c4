use Rattle.rules_scopes.proofs.Slices.{ready_with}
use Rattle.rules_assignments.proofs.Putting.{condition_fault_is}
use Rattle.rules_expressions.proofs.Judging as judging
use Rattle.rules_statements.proofs.condition_met.Goals as goal

pub returns : goal.returns
returns c = let judged = c.judge.ensures in
    rw c.outcome.ensures (record {
      fault = rw c.condition_fault-fault.ensures (condition_fault_is _ _ _ (judging.enough _ _ _ c.args.classes.now (ready_with c.args.slices.now c.requires.1)) _ _ judged.judged);
      learnt = c.learn.ensures;
      column = judged.column;
    })
