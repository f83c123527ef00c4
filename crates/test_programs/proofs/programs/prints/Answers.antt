-- A rehearsal, or another program.
use Rattle.test_programs.proofs.Texts.{by_rehearse, by_other, expected_shown}
use Rattle.test_programs.proofs.programs.prints.Goals as goal

pub returns-then-same_bytes : goal.returns-then-same_bytes
returns-then-same_bytes c = by_rehearse _ _ _ _ c.same_bytes.ensures c.if-same_bytes.true _ c.rehearses.ensures

pub returns : goal.returns
returns c = by_other _ _ _ _ c.same_bytes.ensures c.if-same_bytes.false _
    (expected_shown _ _ _ _ _ c.printed-end.ensures c.is_printed.ensures)
