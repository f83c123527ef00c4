-- What is lent of the view and of the line is as long as counted, and is the line.
use Rattle.kit.specs.Names.{ap, ◌∙◌, List, ℕ, arith, length-take}
use Rattle.test_programs.specs.ProgramRecords.{behind_text}
use Rattle.test_programs.proofs.Rehearsals.{line_is}
use Rattle.test_programs.proofs.programs.line_end.Goals as goal

pub slice_bounds-write_line-end : goal.slice_bounds-write_line-end
slice_bounds-write_line-end c = simp length-take (omega arith)

pub slice_bounds-behind-end-2 : goal.slice_bounds-behind-end-2
slice_bounds-behind-end-2 c = simp length-take (omega arith)

pub returns : goal.returns
returns c = c.behind.ensures
    ∙ ap (λ (l : List ℕ). behind_text l c.args.expected.now c.args.at)
    (line_is _ _ _ _ _ _ c.view_room-view.ensures c.view-answer.ensures c.at_most-length.ensures c.args.number _ _ _ c.requires
    c.write_line-end.ensures)
