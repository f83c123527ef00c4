-- Each turn runs one call more, and its line stands behind the others.
use Rattle.std.specs.Prelude.{◌≡◌}
use Rattle.kit.specs.Names.{length}
use Rattle.ledger_struct.specs.Ledgers.{ledger_of}
use Rattle.test_programs.proofs.Rehearsals.{Going}
use Rattle.test_programs.proofs.programs.runs.Given as goal

abbrev pub invariant-loop-k : goal.invariant-loop-k
invariant-loop-k l = (length l.out ≡ length l.initial.out)
    × Going l.script l.expected l.parts.party l.parts.calls (ledger_of l.initial.ledger) (ledger_of l.ledger) l.k l.at
