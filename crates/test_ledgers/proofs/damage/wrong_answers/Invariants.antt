-- Each turn counts one kind of damage more.
use Rattle.std.specs.Prelude.{◌≡◌, ◌+◌, ◌≤◌}
use Rattle.test_ledgers.specs.Damage.{wrong_answers}
use Rattle.test_ledgers.proofs.Damages.{left_wrong}
use Rattle.test_ledgers.proofs.damage.wrong_answers.Given as goal

abbrev pub invariant-loop-kind : goal.invariant-loop-kind
invariant-loop-kind l = (l.wrong ≤ l.kind) × (l.wrong + left_wrong l.l l.kind ≡ wrong_answers l.l)
