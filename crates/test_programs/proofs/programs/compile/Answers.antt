-- What is written, or the number that refuses it.
use Rattle.kit.specs.Names.{arith}
use Rattle.test_programs.proofs.Texts.{shown_same, written_text, written_within}
use Rattle.test_programs.proofs.programs.compile.Goals as goal

pub answered-requires : goal.answered-requires
answered-requires c = (omega arith, omega (arith, written_within _ _ _ c.write-answer.ensures.1.0))

pub returns : goal.returns
returns c = shown_same (written_text _ _ _ _ _ (omega arith) c.write-answer.ensures.0 c.write-answer.ensures.1.0 c.write-answer.ensures.1.1.1) c.answered.ensures
