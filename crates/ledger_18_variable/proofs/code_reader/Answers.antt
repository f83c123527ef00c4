-- By cases of the code.
use Rattle.ledger_18_variable.proofs.Log.{read_by_all, read_by_one}
use Rattle.ledger_18_variable.proofs.code_reader.Goals as goal

pub returns-then-code-eq-EVERYONE_CODE : goal.returns-then-code-eq-EVERYONE_CODE
returns-then-code-eq-EVERYONE_CODE c = let args = c.args in read_by_all args.addresses.now args.code c.if-code-eq-EVERYONE_CODE.true

pub returns-else-code-eq-EVERYONE_CODE : goal.returns-else-code-eq-EVERYONE_CODE
returns-else-code-eq-EVERYONE_CODE c = let args = c.args in
    read_by_one args.addresses.now args.code _ c.if-code-eq-EVERYONE_CODE.false c.number_at.ensures
