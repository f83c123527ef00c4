-- The line fits its room, and it alone is lent.
use Rattle.kit.specs.Names.{sym, arith, length-take-le}
use Rattle.report_text.proofs.Lines.{refused_length}
use Rattle.program_output.proofs.print_refused.Goals as goal

pub refused_line-end-requires : goal.refused_line-end-requires
refused_line-end-requires c = omega (arith, refused_length c.args.number)

pub slice_bounds-line-end : goal.slice_bounds-line-end
slice_bounds-line-end c =
    let fits = refused_length c.args.number in
    omega (arith, c.refused_line-end.ensures.place)

pub slice_bounds-print-end : goal.slice_bounds-print-end
slice_bounds-print-end c =
    let fits = refused_length c.args.number in
    let line = c.refused_line-end in
    sym (length-take-le line.result line.new.out (omega (arith, line.ensures.place)))
