-- What is reported, or the number that refuses it.
use Rattle.kit.specs.Names.{arith}
use Rattle.report_contract.proofs.Texts.{reported_within}
use Rattle.test_programs.proofs.Texts.{shown_same, reported_text_law}
use Rattle.test_programs.proofs.programs.report.Goals as goal

pub answered-requires : goal.answered-requires
answered-requires c = (omega arith, omega (arith, reported_within _ _ _ c.report-answer.ensures.1))

pub returns : goal.returns
returns c = shown_same (reported_text_law _ _ _ _ _ (omega arith) c.report-answer.ensures.0 c.report-answer.ensures.1 c.report-answer.ensures.2) c.answered.ensures
