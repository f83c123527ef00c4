-- A line with room is appended at the front; another is not begun.
use Rattle.kit.specs.Names.{arith}
use Rattle.rehearse_lines.proofs.Written.{no_room, line_written}
use Rattle.rehearse_lines.proofs.write_line.Goals as goal

pub returns-then-out-lt5 : goal.returns-then-out-lt5
returns-then-out-lt5 c = let args = c.args in no_room args.number args.view.now args.out.now (omega arith)

pub returns-then-out-view : goal.returns-then-out-view
returns-then-out-view c = let args = c.args in no_room args.number args.view.now args.out.now (omega arith)

pub returns : goal.returns
returns c = let args = c.args in
    line_written args.number args.view.now args.out.now _ _ (omega arith) (omega arith) c.append_line.ensures
