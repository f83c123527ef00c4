-- All for code 0, and the address at the code's place for any other.
use Rattle.honest_variables.proofs.Codes.{reader_everyone, reader_named}
use Rattle.honest_variables.proofs.reader_of.Goals as goal

pub returns-then-code-eq-EVERYONE_CODE : goal.returns-then-code-eq-EVERYONE_CODE
returns-then-code-eq-EVERYONE_CODE c = let args = c.args in reader_everyone args.addresses.now args.code c.if-code-eq-EVERYONE_CODE.true

pub returns-else-code-eq-EVERYONE_CODE : goal.returns-else-code-eq-EVERYONE_CODE
returns-else-code-eq-EVERYONE_CODE c = let args = c.args in
    reader_named args.addresses.now args.code _ _ c.address_place-place.ensures c.number_at.ensures
