-- The word stands there before the number is asked.
use Rattle.kit.specs.Names.{arith}
use Rattle.test_programs.proofs.Texts.{accepted_shown}
use Rattle.test_programs.proofs.programs.verdict.Goals as goal

pub answered-requires : goal.answered-requires
answered-requires c = (omega arith, omega (arith, c.append-length.ensures.place))

pub returns : goal.returns
returns c = accepted_shown _ _ _ _ _ _ _ c.check-number.ensures c.append-length.ensures c.answered.ensures
