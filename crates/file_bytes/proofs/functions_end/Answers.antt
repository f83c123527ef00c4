use Rattle.std.specs.Prelude.{◌≡◌, ◌+◌, ◌-◌}
use Rattle.kit.specs.Names.{arith}
use Rattle.file_bytes.proofs.ReadingSteps.{functions_end_next, functions_end_done}
use Rattle.file_bytes.proofs.functions_end.Goals as goal

pub loop-preserved : goal.loop-preserved
loop-preserved c =
    let one_less : c.args.count - (c.loop.counter + 1) ≡ (c.args.count - c.loop.counter) - 1 = omega arith in
    (rw one_less (functions_end_next _ _ _ _ _ (omega arith) c.function_end-at.ensures.value c.loop.invariant.0), omega arith)

pub returns : goal.returns
returns c = record { value = functions_end_done _ _ _ _ (omega arith) c.loop.invariant.0; upper_bound = omega arith }
