-- The report, or the line that tells the number.
use Rattle.kit.specs.Names.{arith}
use Rattle.report_text.proofs.Lines.{refused_length}
use Rattle.test_programs.proofs.FileRecords.{accepted_report, refused_report, refused_told}
use Rattle.test_programs.proofs.Outputs.{not_both}
use Rattle.test_programs.proofs.files.reports.Goals as goal

pub returns-then-number-eq0 : goal.returns-then-number-eq0
returns-then-number-eq0 c = let told = c.report-answer.ensures in
    accepted_report c.args.file.now _ _ _ _ _ c.fill.ensures told.0 told.1 told.2 c.args.number c.requires.1 _ _
    c.if-number-eq0.true (omega arith) c.is_answer.ensures

pub returns-then-not-is_answer : goal.returns-then-not-is_answer
returns-then-not-is_answer c = let told = c.report-answer.ensures in not_both _ c.if-not-is_answer.true
    (refused_report c.args.file.now _ _ _ _ _ c.fill.ensures told.0 told.1 told.2 c.args.number c.requires.1
    c.if-number-eq0.false _ c.is_answer-2.ensures)

pub refused_line-length-requires : goal.refused_line-length-requires
refused_line-length-requires c = omega (arith, refused_length c.args.number)

pub returns : goal.returns
returns c = let told = c.report-answer.ensures in
    refused_told c.args.file.now _ _ _ _ _ c.fill.ensures told.0 told.1 told.2 c.args.number c.requires.1
    c.if-number-eq0.false _ _ _ _ (omega arith) c.refused_line-length.ensures c.is_answer-3.ensures
