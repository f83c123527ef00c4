-- Each kind changes its own part.
use Rattle.kit.specs.Names.{refl, rules}
use Rattle.test_ledgers.specs.Damage.{damaged_head}
use Rattle.test_ledgers.proofs.Damages.{head_of, other_head}
use Rattle.test_ledgers.proofs.damage.damaged_head.Goals as goal

pub returns-in-1 : goal.returns-in-1
unfolding damaged_head
returns-in-1 c = head_of c.args.l c.args.kind 1 _ c.in-1.is refl

pub returns-in-2 : goal.returns-in-2
unfolding damaged_head
returns-in-2 c = head_of c.args.l c.args.kind 2 _ c.in-2.is refl

pub returns-in-3 : goal.returns-in-3
unfolding damaged_head
returns-in-3 c = head_of c.args.l c.args.kind 3 _ c.in-3.is refl

pub returns-in-4 : goal.returns-in-4
unfolding damaged_head
returns-in-4 c = head_of c.args.l c.args.kind 4 _ c.in-4.is refl

pub returns-in-5 : goal.returns-in-5
unfolding damaged_head
returns-in-5 c = head_of c.args.l c.args.kind 5 _ c.in-5.is refl

pub returns-in-6 : goal.returns-in-6
unfolding damaged_head
returns-in-6 c = head_of c.args.l c.args.kind 6 _ c.in-6.is refl

pub returns-in-7 : goal.returns-in-7
unfolding damaged_head
returns-in-7 c = head_of c.args.l c.args.kind 7 _ c.in-7.is refl

pub returns-in-8 : goal.returns-in-8
unfolding damaged_head
returns-in-8 c = head_of c.args.l c.args.kind 8 _ c.in-8.is refl

pub returns-in-9 : goal.returns-in-9
unfolding damaged_head
returns-in-9 c = head_of c.args.l c.args.kind 9 _ c.in-9.is refl

pub returns-in-10 : goal.returns-in-10
unfolding damaged_head
returns-in-10 c = head_of c.args.l c.args.kind 10 _ c.in-10.is refl

pub returns-in_default : goal.returns-in_default
returns-in_default c = other_head c.args.l c.args.kind (search rules) (search rules) (search rules) (search rules) (search rules) (search rules) (search rules) (search rules) (search rules) (search rules)
