-- Each turn looks at one count more.
use Rattle.std.specs.Prelude.{◌≡◌, ◌||◌, ◌-◌}
use Rattle.check_05_uses.specs.Counting.{any_from, other_than_one}
use Rattle.check_05_uses.proofs.some_other_than_one.Given as goal

abbrev pub invariant-loop-uses : goal.invariant-loop-uses
invariant-loop-uses l =
    l.other || any_from (other_than_one l.counts) l.uses-index (l.count - l.uses-index) ≡ any_from (other_than_one l.counts) 0 l.count
