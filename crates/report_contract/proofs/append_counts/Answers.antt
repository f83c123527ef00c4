-- As many counts as there are functions, then their lines.
use Rattle.report_contract.proofs.Texts.{counts_taken, lines_fit, lines_told}
use Rattle.report_contract.proofs.append_counts.Goals as goal

pub slice_bounds-report_lines-end : goal.slice_bounds-report_lines-end
slice_bounds-report_lines-end c = let (accepted, handed, _) = c.requires in
    counts_taken c.args.file.now accepted _ _ handed c.read_layout-layout.ensures.functions

pub report_lines-requires : goal.report_lines-requires
report_lines-requires c = let (accepted, handed, room) = c.requires in
    lines_fit c.args.file.now accepted _ _ handed c.read_layout-layout.ensures.functions _ room

pub returns : goal.returns
returns c = let (accepted, handed, _) = c.requires in
    lines_told c.args.file.now accepted _ _ handed c.read_layout-layout.ensures.functions _ _ _ c.report_lines.ensures
