-- The line fits its room, and it alone is lent.
use Rattle.kit.specs.Names.{sym, arith, length-take-le}
use Rattle.test_shared.proofs.Lines.{line_short}
use Rattle.test_shared.proofs.print.Goals as goal

pub slice_bounds-line-end : goal.slice_bounds-line-end
slice_bounds-line-end c = let all = c.args in
    let fits = line_short all.count all.what.now all.wrong all.how.now c.requires in
    omega (arith, c.tally_line-end.ensures.place)

pub slice_bounds-print-end : goal.slice_bounds-print-end
slice_bounds-print-end c = let all = c.args in let line = c.tally_line-end in
    let fits = line_short all.count all.what.now all.wrong all.how.now c.requires in
    sym (length-take-le line.result line.new.out (omega (arith, line.ensures.place)))

pub returns : goal.returns
returns c = let all = c.args in
    let line = c.tally_line-end in
    let fits = line_short all.count all.what.now all.wrong all.how.now c.requires in
    let lent = length-take-le line.result line.new.out (omega (arith, line.ensures.place)) in
    omega (arith, line.ensures.place, c.print.ensures)
