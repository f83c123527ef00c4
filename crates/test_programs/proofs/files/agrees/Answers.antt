-- The number, then what is written, then what is reported.
use Rattle.kit.specs.Names.{sym, ◌∙◌, rules}
use Rattle.test_programs.proofs.FileRecords.{other_file, other_writing, same_file_law}
use Rattle.test_programs.proofs.files.agrees.Goals as goal

pub returns-then-check-number : goal.returns-then-check-number
returns-then-check-number c = other_file _ _ _ _ _ c.check.ensures c.if-check-number.true

pub writes-requires : goal.writes-requires
writes-requires c = (search rules, sym c.check.ensures ∙ c.if-check-number.false)

pub returns-then-not-writes : goal.returns-then-not-writes
returns-then-not-writes c = other_writing _ _ _ _ (sym c.check.ensures ∙ c.if-check-number.false) _ c.writes.ensures c.if-not-writes.true

pub reports-requires : goal.reports-requires
reports-requires c = (search rules, sym c.check.ensures ∙ c.if-check-number.false)

pub returns : goal.returns
returns c = same_file_law _ _ _ _ (sym c.check.ensures ∙ c.if-check-number.false) _ c.writes.ensures c.if-not-writes.false _
    c.reports.ensures
