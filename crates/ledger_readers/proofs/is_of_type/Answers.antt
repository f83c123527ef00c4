-- By cases of the code.
use Rattle.kit.specs.Names.{arith}
use Rattle.ledger_readers.proofs.ReadersByCode.{of_boolean, of_uint, of_address}
use Rattle.ledger_readers.proofs.is_of_type.Goals as goal

pub returns-then-code-eq-BOOL : goal.returns-then-code-eq-BOOL
returns-then-code-eq-BOOL c = of_boolean _ _ c.if-code-eq-BOOL.true

pub returns-then-code-eq-UINT : goal.returns-then-code-eq-UINT
returns-then-code-eq-UINT c = of_uint _ _ c.if-code-eq-BOOL.false c.if-code-eq-UINT.true (omega (arith))

pub returns : goal.returns
returns c = of_address _ _ c.if-code-eq-BOOL.false c.if-code-eq-UINT.false
