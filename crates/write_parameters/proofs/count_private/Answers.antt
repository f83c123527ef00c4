use Rattle.std.specs.Prelude.{◌≡◌, ◌+◌, ◌*◌, ◌-◌}
use Rattle.kit.specs.Names.{arith}
use Rattle.write_parameters.proofs.Parameters.{private_next, private_done}
use Rattle.write_parameters.proofs.count_private.Goals as goal

pub loop-i-init : goal.loop-i-init
loop-i-init c = let args = c.args in
    let all : args.count - 0 ≡ args.count = omega arith in
    let first : args.start + 2 * 0 ≡ args.start = omega arith in
    rw (all, first) (omega arith, omega arith)

pub loop-i-preserved : goal.loop-i-preserved
loop-i-preserved c = let args = c.args in let loop = c.loop-i in
    let left : args.count - (loop.i + 1) ≡ (args.count - loop.i) - 1 = omega arith in
    let next : args.start + 2 * (loop.i + 1) ≡ args.start + 2 * loop.i + 2 = omega arith in
    rw (left, next) (
      private_next args.file.now _ (args.count - loop.i) (args.start + 2 * loop.i) _ _ _
          (omega arith) c.one_if_private-private.ensures.value
          c.byte_at.ensures.value loop.invariant.0,
      omega arith,
    )

pub returns : goal.returns
returns c = let args = c.args in let loop = c.loop-i in
    private_done args.file.now _ (args.count - loop.i) (args.start + 2 * loop.i) _ (omega arith) loop.invariant.0
