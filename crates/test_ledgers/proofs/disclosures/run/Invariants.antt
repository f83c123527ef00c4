-- Each turn runs one call more; the place stays near, however many calls are left.
use Rattle.std.specs.Prelude.{◌≡◌, ◌+◌, ◌*◌, ◌-◌, ◌<◌, ◌≤◌}
use Rattle.test_ledgers.proofs.disclosures.run.Given as goal

abbrev pub invariant-loop : goal.invariant-loop
invariant-loop l = (0 < l.run.place) × ((l.run.left ≡ l.initial.run.left - l.counter) × (l.run.place + 270000 * l.run.left ≤ 70000000))
