-- Everyone for code 0, and the party at the code's address for any other.
use Rattle.disclose_readers.proofs.Readers.{reads_everyone, reads_named}
use Rattle.kit.specs.Names.{refl, arith}
use Rattle.disclose_readers.proofs.may_read.Goals as goal

pub returns-then-code-eq-EVERYONE_CODE : goal.returns-then-code-eq-EVERYONE_CODE
returns-then-code-eq-EVERYONE_CODE c = let args = c.args in reads_everyone args.addresses.now args.code args.party (omega arith)

pub returns-else-code-eq-EVERYONE_CODE : goal.returns-else-code-eq-EVERYONE_CODE
returns-else-code-eq-EVERYONE_CODE c = let args = c.args in
    reads_named args.addresses.now args.code args.party _ _ (c.address_of.ensures c.if-code-eq-EVERYONE_CODE.false) refl
