-- Five numbers are stored.
use Rattle.kit.specs.Names.{arith, length-set}
use Rattle.ledger_contents.proofs.FlatContents.{five_set}
use Rattle.ledger_contents.proofs.put_five.Goals as goal

pub bounds-flat-at-2 : goal.bounds-flat-at-2
bounds-flat-at-2 c = simp length-set (omega arith)

pub bounds-flat-at-3 : goal.bounds-flat-at-3
bounds-flat-at-3 c = simp length-set (omega arith)

pub bounds-flat-at-4 : goal.bounds-flat-at-4
bounds-flat-at-4 c = simp length-set (omega arith)

pub bounds-flat-at-5 : goal.bounds-flat-at-5
bounds-flat-at-5 c = simp length-set (omega arith)

pub returns : goal.returns
returns c = five_set _ _ _ _ _ _ _ c.requires
