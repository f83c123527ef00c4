-- `rules_links::no_links` meets its contract: the classes set so far are their own indices.
use Rattle.std.specs.Prelude.{◌≡◌, ◌<◌}
use Rattle.kit.specs.Names.{ℕ, get_or}
use Rattle.rules_links.proofs.no_links.Given as goal

abbrev pub invariant-loop-i : goal.invariant-loop-i
invariant-loop-i l = (j : ℕ) → j < l.i → get_or l.classes j 0 ≡ j
