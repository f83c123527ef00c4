use Rattle.std.specs.Prelude.{◌≡◌, ◌+◌, ◌-◌}
use Rattle.kit.specs.Names.{arith}
use Rattle.rehearse_scripts.proofs.Calls.{calls_next, calls_done}
use Rattle.rehearse_scripts.proofs.calls_end.Goals as goal

pub loop-preserved : goal.loop-preserved
loop-preserved c =
    let left : c.args.count - (c.loop.counter + 1) ≡ (c.args.count - c.loop.counter) - 1 = omega arith in
    (rw left (calls_next _ _ _ _ _ (omega arith) (omega (arith, c.byte_at.ensures.value)) c.loop.invariant.0), omega arith)

pub returns-clause-value : goal.returns-clause-value
returns-clause-value c = calls_done _ _ _ _ (omega arith) c.loop.invariant.0
