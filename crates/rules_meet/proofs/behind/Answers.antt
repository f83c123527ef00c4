use Rattle.kit.specs.Names.{sym, ◌∙◌}
use Rattle.rules_links.proofs.Growing.{link_learnt}
use Rattle.rules_meet.proofs.Branches.{one_adds_nothing, other_adds_nothing}
use Rattle.rules_meet.proofs.behind.Goals as goal

pub returns-then-other_added : goal.returns-then-other_added
returns-then-other_added c = let met = c.meet.ensures in
    record { learnt = λ in_one in_other. link_learnt _ _ _ met.classed (met.long ∙ sym c.requires.3) met.links }

pub returns-else-other_added : goal.returns-else-other_added
returns-else-other_added c = rw c.copy_from_slice.ensures.after
    (record { learnt = λ in_one in_other. other_adds_nothing _ _ _ _ _ in_one in_other c.requires.1 c.if-other_added.false })

pub returns-else-one_added : goal.returns-else-one_added
returns-else-one_added c = record { learnt = λ in_one in_other. one_adds_nothing _ _ _ _ _ in_one in_other c.requires.1 c.if-one_added.false }
