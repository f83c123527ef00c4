use Rattle.file_accepted.specs.Context.{fields_in}
use Rattle.ledger_contents.specs.Contents.{contents_of}
use Rattle.ledger_18_places.proofs.PlaceSteps.{keys_start, key_next, key_stops, keys_done}
use Rattle.ledger_18_places.proofs.field_fits.Goals as goal

pub loop-key-init : goal.loop-key-init
loop-key-init c = let a = c.args in
    keys_start (fields_in a.file.now) a.numbers.now a.f (contents_of a.flat.now) a.p a.count

pub loop-key-preserved : goal.loop-key-preserved
loop-key-preserved c = let place-reader = c.place_reader-reader in let a = c.args in
    key_next (fields_in a.file.now) a.numbers.now a.f (contents_of a.flat.now) a.p c.loop-key.key a.count _ _ c.field_type-code.result place-reader.result c.loop-key-test.true
    c.field_type-code.ensures place-reader.ensures c.fits_at.ensures c.loop-key.invariant c.if-not-fits_at.false

pub returns-then-not-fits_at : goal.returns-then-not-fits_at
returns-then-not-fits_at c = let place-reader = c.place_reader-reader in let a = c.args in
    key_stops (fields_in a.file.now) a.numbers.now a.f (contents_of a.flat.now) a.p c.loop-key.key a.count _ _ c.field_type-code.result place-reader.result c.loop-key-test.true
    c.field_type-code.ensures place-reader.ensures c.fits_at.ensures c.loop-key.invariant c.if-not-fits_at.true

pub returns : goal.returns
returns c = let a = c.args in
    keys_done (fields_in a.file.now) a.numbers.now a.f (contents_of a.flat.now) a.p c.loop-key.key a.count _ c.loop-key-test.false c.loop-key.invariant
