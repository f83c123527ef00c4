-- `rules_meet::meet` meets its contract: first each pair of classes gets its last name, then each name gets that of its pair.
use Rattle.kit.specs.Names.{get_or}
use Rattle.rules_links.proofs.Places.{UpTo}
use Rattle.rules_meet.proofs.Meeting.{pair_of, Lasts}
use Rattle.rules_meet.proofs.meet.Given as goal

abbrev pub invariant-loop-i : goal.invariant-loop-i
invariant-loop-i l = Lasts l.fn.classes l.other l.last l.i

abbrev pub invariant-loop-i-2 : goal.invariant-loop-i-2
invariant-loop-i-2 l = UpTo (λ j. get_or l.last (pair_of l.fn.classes l.other j) 0) l.i l.fn.classes l.classes
