-- Kind 0 is no damage.
use Rattle.test_ledgers.proofs.Damages.{no_damage, head_damage, item_damage}
use Rattle.test_ledgers.proofs.damage.damaged.Goals as goal

pub returns-then-kind-eq0 : goal.returns-then-kind-eq0
returns-then-kind-eq0 c = no_damage _ _ c.if-kind-eq0.true

pub returns-then-kind-lt12 : goal.returns-then-kind-lt12
returns-then-kind-lt12 c = head_damage _ _ _ c.if-kind-eq0.false c.if-kind-lt12.true c.damaged_head.ensures

pub returns-else-kind-lt12 : goal.returns-else-kind-lt12
returns-else-kind-lt12 c = item_damage _ _ _ c.if-kind-eq0.false c.if-kind-lt12.false c.damaged_item.ensures
