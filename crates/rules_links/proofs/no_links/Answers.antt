use Rattle.std.specs.Prelude.{◌≡◌, ◌<◌}
use Rattle.kit.specs.Names.{ℕ, arith, length, get_or}
use Rattle.rules_links.proofs.Joining.{alone, classed}
use Rattle.rules_links.proofs.no_links.Goals as goal

pub returns : goal.returns
returns c = let (enough, few) = c.requires in let long = c.loop-i.auto.classes in
    let its : (j : ℕ) → j < length c.loop-i.classes → get_or c.loop-i.classes j 0 ≡ j = λ j h. c.loop-i.invariant j (omega arith) in
    (alone _ (rw long enough) its, classed _ (rw long enough) (rw long few) (λ j h. rw (its j h) h), long)
