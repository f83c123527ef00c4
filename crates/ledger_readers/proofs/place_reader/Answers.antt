-- By cases of the owner's byte.
use Rattle.kit.specs.Names.{ap, ◌∙◌, ℕ, get_or}
use Rattle.definitions.specs.Original.{final_address, position}
use Rattle.file_accepted.specs.Context.{fields_in}
use Rattle.ledger_readers.proofs.ReadersByCode.{reader_all, reader_key, reader_final}
use Rattle.ledger_readers.proofs.place_reader.Goals as goal

pub returns-then-owner-eq-EVERYONE_CODE : goal.returns-then-owner-eq-EVERYONE_CODE
returns-then-owner-eq-EVERYONE_CODE c = reader_all c.args.file.now c.args.f c.requires.0 (final_address (fields_in c.args.file.now) c.args.numbers.now) c.args.key _ c.byte_at-owner.ensures.value c.if-owner-eq-EVERYONE_CODE.true

pub returns-then-owner-eq-KEY_CODE : goal.returns-then-owner-eq-KEY_CODE
returns-then-owner-eq-KEY_CODE c = reader_key c.args.file.now c.args.f c.requires.0 (final_address (fields_in c.args.file.now) c.args.numbers.now) c.args.key _ c.byte_at-owner.ensures.value c.if-owner-eq-EVERYONE_CODE.false c.if-owner-eq-KEY_CODE.true

pub returns : goal.returns
returns c = let byte_at = c.byte_at-owner.ensures.value in
    reader_final c.args.file.now c.args.f c.requires.0 (final_address (fields_in c.args.file.now) c.args.numbers.now) c.args.key _ byte_at _ c.if-owner-eq-EVERYONE_CODE.false c.if-owner-eq-KEY_CODE.false
    (c.number_at.ensures ∙ ap (λ (p : ℕ). get_or c.args.numbers.now p 0) (c.position-p.ensures ∙ ap (λ (f : ℕ). position (fields_in c.args.file.now) f 0) c.final_of.ensures))
