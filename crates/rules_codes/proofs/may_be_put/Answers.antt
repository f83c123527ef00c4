use Rattle.kit.specs.Names.{ne_eqb}
use Rattle.rules_codes.proofs.Codes.{put_linked}
use Rattle.rules_codes.proofs.may_be_put.Goals as goal

pub returns-then-value-eq-EVERYONE : goal.returns-then-value-eq-EVERYONE
returns-then-value-eq-EVERYONE c = rw c.if-value-eq-EVERYONE.true

pub returns-then-place-eq-EVERYONE : goal.returns-then-place-eq-EVERYONE
returns-then-place-eq-EVERYONE c = rw (ne_eqb _ _ c.if-value-eq-EVERYONE.false, c.if-place-eq-EVERYONE.true)

pub returns : goal.returns
returns c = put_linked _ _ _ _ c.requires.0 c.requires.1 c.if-value-eq-EVERYONE.false c.if-place-eq-EVERYONE.false c.same_class.ensures
