-- The loop's invariant: the first numbers are those of the first contents, however these are told.
use Rattle.std.specs.Prelude.{◌≡◌}
use Rattle.kit.specs.Names.{map, take}
use Rattle.ledger_contents.specs.Contents.{contents_of}
use Rattle.ledger_numbers.specs.Numbers.{TellsNumber}
use Rattle.ledger_numbers.proofs.put_numbers.Given as goal

abbrev pub invariant-loop-i : goal.invariant-loop-i
invariant-loop-i g l = (told : _) → TellsNumber (goal.F-post g l.number) told → take l.i l.out ≡ take l.i (map told (contents_of l.flat))
