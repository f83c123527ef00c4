use Rattle.std.specs.Prelude.{◌≡◌, ◌+◌, ◌-◌}
use Rattle.kit.specs.Names.{arith, length-take-le, get_or-take}
use Rattle.check_05_uses.specs.Counting.{other_than_one}
use Rattle.check_05_uses.proofs.Loops.{from_next, from_done}
use Rattle.check_05_uses.proofs.some_other_than_one.Goals as goal

pub loop-uses-init : goal.loop-uses-init
loop-uses-init c =
    let all : c.args.count - 0 ≡ c.args.count = omega arith in
    rw all

pub loop-uses-preserved : goal.loop-uses-preserved
loop-uses-preserved c =
    let loop = c.loop-uses in
    let counts = c.args.counts.now in
    let long = length-take-le c.args.count counts (omega arith) in
    let rest : c.args.count - (loop.uses-index + 1) ≡ c.args.count - loop.uses-index - 1 = omega arith in
    rw (get_or-take c.args.count counts loop.uses-index 0 (omega arith), rest)
    (from_next (other_than_one counts) loop.uses-index _ loop.other _ loop.invariant (omega arith))

pub returns : goal.returns
returns c =
    let loop = c.loop-uses in
    let long = length-take-le c.args.count c.args.counts.now (omega arith) in
    from_done (other_than_one c.args.counts.now) _ _ loop.other _ loop.invariant (omega arith)
