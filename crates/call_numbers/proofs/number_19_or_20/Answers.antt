-- The sentences in their order.
use Rattle.kit.specs.Names.{refl, arith, le-leb, lt-leb}
use Rattle.definitions.specs.Basics.{first_that_holds}
use Rattle.call_numbers.proofs.number_19_or_20.Goals as goal

pub returns-then-arguments_off : goal.returns-then-arguments_off
unfolding first_that_holds
returns-then-arguments_off c = rw c.if-arguments_off.true refl

pub returns-then-last-eq65535 : goal.returns-then-last-eq65535
unfolding first_that_holds
returns-then-last-eq65535 c = rw (c.if-arguments_off.false, le-leb 65535 c.args.last (omega (arith, c.if-last-eq65535.true))) refl

pub returns : goal.returns
unfolding first_that_holds
returns c = rw (c.if-arguments_off.false, lt-leb 65535 c.args.last (omega (arith, c.if-last-eq65535.false))) refl
