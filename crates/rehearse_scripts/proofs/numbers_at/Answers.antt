use Rattle.std.specs.Prelude.{◌≡◌, ◌+◌, ◌*◌}
use Rattle.kit.specs.Names.{arith, length-set}
use Rattle.rehearse_scripts.proofs.Calls.{arguments_next, arguments_done}
use Rattle.rehearse_scripts.proofs.numbers_at.Goals as goal

pub loop-i-preserved : goal.loop-i-preserved
loop-i-preserved c = let i = c.loop-i.i in
    let next : c.args.at + 4 * (i + 1) ≡ c.args.at + 4 * i + 4 = omega arith in
    (simp length-set c.loop-i.invariant.0, rw next (arguments_next _ _ _ i c.loop-i.made _ _ (omega arith) (omega arith) c.four_bytes_at.ensures c.loop-i.invariant.1))

pub returns : goal.returns
returns c =
    (c.loop-i.invariant.0, arguments_done _ _ _ c.loop-i.i c.loop-i.made _ (omega arith) (omega arith) c.loop-i.invariant.1)
