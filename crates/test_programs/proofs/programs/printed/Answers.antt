-- One program by its name, or none.
use Rattle.test_programs.proofs.Texts.{shown_same, by_verdict, by_compile, by_report, nothing_shown}
use Rattle.test_programs.proofs.programs.printed.Goals as goal

pub returns-then-same_bytes : goal.returns-then-same_bytes
returns-then-same_bytes c = shown_same (by_verdict _ _ _ c.same_bytes.ensures c.if-same_bytes.true) c.verdict.ensures

pub returns-then-same_bytes-2 : goal.returns-then-same_bytes-2
returns-then-same_bytes-2 c = shown_same (by_compile _ _ _ c.same_bytes.ensures c.if-same_bytes.false _ c.same_bytes-2.ensures c.if-same_bytes-2.true)
    c.compile.ensures

pub returns-then-same_bytes-3 : goal.returns-then-same_bytes-3
returns-then-same_bytes-3 c = shown_same (by_report _ _ _ c.same_bytes.ensures c.if-same_bytes.false _ c.same_bytes-2.ensures c.if-same_bytes-2.false _
    c.same_bytes-3.ensures c.if-same_bytes-3.true) c.report.ensures

pub returns : goal.returns
returns c = nothing_shown _ _ _ c.same_bytes.ensures c.if-same_bytes.false _ c.same_bytes-2.ensures c.if-same_bytes-2.false _
    c.same_bytes-3.ensures _ c.if-same_bytes-3.false
