-- Each turn runs one call more; the place stays near, however many calls are left.
use Rattle.std.specs.Prelude.{◌≡◌, ◌+◌, ◌*◌, ◌-◌, ◌<◌, ◌≤◌}
use Rattle.test_ledgers.proofs.runs.run.Given as goal

abbrev pub invariant-loop : goal.invariant-loop
invariant-loop l = (0 < l.run.place) × ((l.run.left ≡ l.initial.run.left - l.counter) × (l.run.place + 67000 * l.run.left ≤ 20000000))
