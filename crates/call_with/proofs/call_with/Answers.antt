-- The walk, and what is shown after it.
use Rattle.std.specs.Prelude.{◌*◌}
use Rattle.kit.specs.Names.{sym, arith, length-take-le}
use Rattle.call_with.proofs.AfterCall.{made_done, made_failed}
use Rattle.call_with.proofs.call_with.Goals as goal

pub returns-then-walk_with : goal.returns-then-walk_with
returns-then-walk_with c = λ l function here. made_done _ _ _ _ _ _ _ _ _ c.walk_with.ensures l function here c.if-walk_with.true _ c.filled-shown.ensures

pub slice_bounds-filled-end : goal.slice_bounds-filled-end
slice_bounds-filled-end c = sym (length-take-le _ _ (omega (arith, c.put_public-count.ensures.fits)))

pub filled-shown-requires-2 : goal.filled-shown-requires-2
filled-shown-requires-2 c = let put = c.put_public-count in
    omega (arith, length-take-le (5 * put.result) put.new.flat put.ensures.fits)

pub returns : goal.returns
returns c = λ l function here. made_failed _ _ _ _ _ _ _ _ _ c.walk_with.ensures l function here
    c.if-walk_with.false _ _ c.put_public-count.ensures _ c.filled-shown-2.ensures
