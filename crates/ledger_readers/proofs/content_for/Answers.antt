-- By cases of the reader.
use Rattle.kit.specs.Names.{arith}
use Rattle.ledger_readers.proofs.content_for.Goals as goal

pub overflow_cast-result : goal.overflow_cast-result
overflow_cast-result c = let short = rw c.in-Only.is at c.requires in
    omega arith

pub returns-in-Anyone : goal.returns-in-Anyone
returns-in-Anyone c = rw c.in-Anyone.is

pub returns-in-Only : goal.returns-in-Only
returns-in-Only c = rw c.in-Only.is
