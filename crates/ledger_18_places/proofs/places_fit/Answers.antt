use Rattle.kit.specs.Names.{ap, sym, List, arith}
use Rattle.definitions.specs.Ledger.{Form, fits, all_fit}
use Rattle.file_accepted.specs.Context.{fields_in}
use Rattle.ledger_contents.specs.Contents.{contents_of}
use Rattle.ledger_places.proofs.Positions.{fields_count}
use Rattle.ledger_18_places.proofs.PlaceSteps.{forms_listed, field_next, field_stops, fields_done}
use Rattle.ledger_18_places.proofs.places_fit.Goals as goal

pub loop-f-init : goal.loop-f-init
loop-f-init c = let a = c.args in
    (omega arith, sym (ap (λ (l : List Form). all_fit fits l (contents_of a.flat.now)) (forms_listed (fields_in a.file.now) a.numbers.now)))

pub loop-f-preserved : goal.loop-f-preserved
loop-f-preserved c = let place-count = c.place_count-many in let a = c.args in
    let counted = fields_count a.file.now in (
      omega (arith, place-count.ensures.upper_bound),
      field_next (fields_in a.file.now) a.numbers.now c.loop-f.f (omega arith) (contents_of a.flat.now) c.loop-f.p place-count.result
          place-count.ensures.value _ _ c.field_fits.ensures c.loop-f.invariant.1 c.if-not-field_fits.false,
    )

pub returns-then-not-field_fits : goal.returns-then-not-field_fits
returns-then-not-field_fits c = let place-count = c.place_count-many in let a = c.args in
    let counted = fields_count a.file.now in
    field_stops (fields_in a.file.now) a.numbers.now c.loop-f.f (omega arith) (contents_of a.flat.now) c.loop-f.p place-count.result
    place-count.ensures.value _ _ c.field_fits.ensures c.loop-f.invariant.1 c.if-not-field_fits.true

pub returns : goal.returns
returns c = let a = c.args in
    let counted = fields_count a.file.now in
    fields_done (fields_in a.file.now) a.numbers.now c.loop-f.f c.loop-f.p a.flat.now _ (omega arith) c.loop-f.invariant.1
