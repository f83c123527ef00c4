-- The three types.
use Rattle.write_parameters.proofs.Parameters.{bool_code, uint_code, address_code}
use Rattle.write_parameters.proofs.type_code.Goals as goal

pub returns-then-code-eq-BOOL : goal.returns-then-code-eq-BOOL
returns-then-code-eq-BOOL c = bool_code _ c.if-code-eq-BOOL.true

pub returns-then-code-eq-UINT : goal.returns-then-code-eq-UINT
returns-then-code-eq-UINT c = uint_code _ c.if-code-eq-BOOL.false c.if-code-eq-UINT.true

pub returns-else-code-eq-UINT : goal.returns-else-code-eq-UINT
returns-else-code-eq-UINT c = address_code _ c.if-code-eq-BOOL.false c.if-code-eq-UINT.false
