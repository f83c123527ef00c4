-- The answer as it stands, or the line of a refusal, which fits the output.
use Rattle.kit.specs.Names.{arith, rules}
use Rattle.report_text.proofs.Lines.{refused_length}
use Rattle.test_programs.proofs.Texts.{kept_shown, refused_shown}
use Rattle.test_programs.proofs.programs.answered.Goals as goal

pub refused_line-requires : goal.refused_line-requires
refused_line-requires c = omega (arith, refused_length c.args.number)

pub returns-then-number-eq0 : goal.returns-then-number-eq0
returns-then-number-eq0 c = let all = c.args in kept_shown all.number all.out.now all.end c.if-number-eq0.true (search rules)

pub returns-else-number-eq0 : goal.returns-else-number-eq0
returns-else-number-eq0 c = let all = c.args in refused_shown all.number all.out.now _ _ _ c.if-number-eq0.false c.refused_line.ensures
