-- 0 is plain 0, and one more than a value that value.
use Rattle.kit.specs.Names.{refl}
use Rattle.definitions.specs.ContractFile.{owner_of_code}
use Rattle.ledger_circuits.specs.Circuits.{address_from}
use Rattle.honest_variables.proofs.Codes.{reader_short, slot_none, slot_some}
use Rattle.honest_variables.proofs.content_of_slot.Goals as goal

pub content_for-requires : goal.content_for-requires
content_for-requires c = let args = c.args in
    reader_short args.addresses.now args.code c.reader_of-reader.result c.reader_of-reader.ensures c.requires.narrow

pub returns-then-slot-eq0 : goal.returns-then-slot-eq0
returns-then-slot-eq0 c = let args = c.args in
    slot_none (address_from args.addresses.now) args.call args.n (owner_of_code args.code) args.slot c.if-slot-eq0.true

pub returns-else-slot-eq0 : goal.returns-else-slot-eq0
returns-else-slot-eq0 c = let args = c.args in
    slot_some (address_from args.addresses.now) args.call args.n (owner_of_code args.code) args.slot _ _ _ _ c.if-slot-eq0.false c.reader_of-reader.ensures refl refl c.content_for.ensures
