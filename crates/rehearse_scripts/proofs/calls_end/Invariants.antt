-- Each turn passes one call more.
use Rattle.std.specs.Prelude.{◌≡◌, ◌+◌, ◌*◌, ◌-◌, ◌≤◌}
use Rattle.rehearse_scripts.specs.Scripts.{calls_end}
use Rattle.rehearse_scripts.proofs.calls_end.Given as goal

abbrev pub invariant-loop : goal.invariant-loop
invariant-loop l = (calls_end (l.count - l.counter) l.bytes l.at ≡ calls_end l.count l.bytes l.from) × (l.at + 1023 * (l.count - l.counter) ≤ l.from + 1023 * l.count)
