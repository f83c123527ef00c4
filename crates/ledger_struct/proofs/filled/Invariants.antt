-- Each turn fills one place more.
use Rattle.std.specs.Prelude.{◌≡◌}
use Rattle.kit.specs.Names.{map, take}
use Rattle.ledger_contents.specs.Contents.{contents_of}
use Rattle.ledger_struct.specs.Whole.{padded, place_of, zero_place}
use Rattle.ledger_struct.proofs.filled.Given as goal

abbrev pub invariant-loop-p : goal.invariant-loop-p
invariant-loop-p g l = l.places ≡ padded g.row.N zero_place (take l.p (map place_of (contents_of l.flat)))
