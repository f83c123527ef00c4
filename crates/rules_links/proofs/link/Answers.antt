use Rattle.kit.specs.Names.{arith, ne_eqb}
use Rattle.rules_links.proofs.Joining.{joined}
use Rattle.rules_links.proofs.Growing.{nothing_learnt}
use Rattle.rules_links.proofs.link.Goals as goal

pub returns-then-a-eq0 : goal.returns-then-a-eq0
returns-then-a-eq0 c = nothing_learnt _ _ c.requires.0 (rw c.if-a-eq0.true)

pub returns-then-b-eq0 : goal.returns-then-b-eq0
returns-then-b-eq0 c = nothing_learnt _ _ c.requires.0 (rw (ne_eqb _ 0 c.if-a-eq0.false, c.if-b-eq0.true))

pub returns : goal.returns
returns c = let (classed, a-below, b-below) = c.requires in
    joined _ _ _ _ _ classed a-below b-below c.if-a-eq0.false c.if-b-eq0.false c.loop-class.invariant (omega arith)
