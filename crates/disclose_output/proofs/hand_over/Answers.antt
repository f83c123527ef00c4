-- Values with room are copied; others are not begun.
use Rattle.kit.specs.Names.{refl, arith, length, lt-ltb, le-ltb, rules}
use Rattle.disclose_output.proofs.hand_over.Goals as goal

pub returns-then-out-values : goal.returns-then-out-values
returns-then-out-values c =
    let short = lt-ltb (length c.args.out.now) (length c.args.values.now) (omega (arith, c.if-out-values.true)) in
    record { number = rw short refl; long = rw short refl; output = rw short refl }

pub returns : goal.returns
returns c =
    let fits = le-ltb (length c.args.out.now) (length c.args.values.now) (omega (arith, c.if-out-values.false)) in
    record { number = rw fits refl; long = rw fits refl; output = rw fits (search rules) }
