-- Each turn flattens one place more.
use Rattle.std.specs.Prelude.{◌≡◌}
use Rattle.kit.specs.Names.{map, take}
use Rattle.ledger_contents.specs.Contents.{content_of_place, contents_of}
use Rattle.ledger_struct.proofs.flatten.Given as goal

abbrev pub invariant-loop-i : goal.invariant-loop-i
invariant-loop-i g l = take l.i (contents_of l.flat) ≡ map content_of_place (take l.i l.place-items)
