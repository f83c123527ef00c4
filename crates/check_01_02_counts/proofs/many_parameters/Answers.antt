use Rattle.std.specs.Prelude.{◌≡◌, ◌+◌, ◌-◌}
use Rattle.kit.specs.Names.{arith}
use Rattle.check_01_02_counts.proofs.ManyParameters.{many_next, many_found, many_done}
use Rattle.check_01_02_counts.proofs.many_parameters.Goals as goal

pub loop-preserved : goal.loop-preserved
loop-preserved c =
    let one_less : c.args.count - (c.loop.counter + 1) ≡ (c.args.count - c.loop.counter) - 1 = omega arith in (
      rw one_less (many_next _ _ _ _ c.loop.invariant.0 (omega arith) _ _ c.byte_at-many.ensures.value c.if-many.false c.function_end-at.ensures.value),
      omega arith,
    )

pub returns-then-many : goal.returns-then-many
returns-then-many c = many_found _ _ _ _ c.loop.invariant.0 (omega arith) _ c.byte_at-many.ensures.value c.if-many.true

pub returns : goal.returns
returns c = many_done _ _ _ _ c.loop.invariant.0 (omega arith)
