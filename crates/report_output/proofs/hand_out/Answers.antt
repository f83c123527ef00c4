-- One run stands at the front where it fits.
use Rattle.kit.specs.Names.{refl, arith}
use Rattle.write_output.proofs.Answers.{too_short, stands}
use Rattle.report_output.proofs.hand_out.Goals as goal

pub returns-then-out-text : goal.returns-then-out-text
returns-then-out-text c = let args = c.args in too_short args.text.now args.out.now (omega (arith, c.if-out-text.true))

pub returns : goal.returns
returns c = let args = c.args in
    stands args.text.now args.out.now _ _ _ (omega (arith, c.if-out-text.false)) refl c.append.ensures
