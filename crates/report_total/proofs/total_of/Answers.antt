use Rattle.std.specs.Prelude.{◌<◌}
use Rattle.kit.specs.Names.{ℕ, arith, ap, ◌∙◌, get_or, get_or-take, length-take-le}
use Rattle.report_total.proofs.Sums.{none_added, line_added}
use Rattle.report_total.proofs.total_of.Goals as goal

pub loop-function-init : goal.loop-function-init
loop-function-init c = (none_added c.args.counts.now c.args.order.now, omega arith)

pub loop-function-preserved : goal.loop-function-preserved
loop-function-preserved c = let counts = c.args.counts.now in let order = c.args.order.now in let i = c.loop-function.function-index in
    let long = length-take-le c.args.lines order c.requires.0 in
    let here : i < c.args.lines = omega (arith, long, c.loop-function-test.true) in
    let count = c.count_of.ensures ∙ ap (λ (f : ℕ). get_or counts f 0) (get_or-take c.args.lines order i 0 here) in
    (omega (arith, count, line_added counts order i (omega arith)), omega arith)
