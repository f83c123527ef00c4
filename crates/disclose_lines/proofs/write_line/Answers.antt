-- A line with room is appended at the front; another is not begun.
use Rattle.kit.specs.Names.{arith}
use Rattle.disclose_lines.proofs.Written.{no_room, line_written}
use Rattle.disclose_lines.proofs.write_line.Goals as goal

pub returns-then-out-lt21 : goal.returns-then-out-lt21
returns-then-out-lt21 c = let args = c.args in no_room args.number args.values.now args.out.now (omega arith)

pub returns-then-out-values : goal.returns-then-out-values
returns-then-out-values c = let args = c.args in no_room args.number args.values.now args.out.now (omega arith)

pub returns : goal.returns
returns c = let args = c.args in
    line_written args.number args.values.now args.out.now _ _ (omega arith) c.append_line.ensures
