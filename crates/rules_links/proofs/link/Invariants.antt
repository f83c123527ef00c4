-- `rules_links::link` meets its contract: the classes passed are exchanged, those ahead are as before.
use Rattle.kit.specs.Names.{get_or}
use Rattle.rules_links.specs.Classes.{exchanged}
use Rattle.rules_links.proofs.Places.{UpTo}
use Rattle.rules_links.proofs.link.Given as goal

abbrev pub invariant-loop-class : goal.invariant-loop-class
invariant-loop-class l = UpTo (λ m. exchanged l.old l.new (get_or l.initial.classes m 0)) l.class-index l.initial.classes l.classes
