-- Each turn tests the places of one field more.
use Rattle.std.specs.Prelude.{◌≡◌, ◌*◌, ◌≤◌}
use Rattle.kit.specs.Names.{drop}
use Rattle.definitions.specs.Original.{per_place}
use Rattle.definitions.specs.Ledger.{fits, all_fit}
use Rattle.file_accepted.specs.Context.{fields_in}
use Rattle.ledger_contents.specs.Contents.{contents_of}
use Rattle.ledger_18_places.specs.Places.{place_form, forms_of_places}
use Rattle.ledger_18_places.proofs.places_fit.Given as goal

abbrev pub invariant-loop-f : goal.invariant-loop-f
invariant-loop-f l = (l.p ≤ 16 * l.f)
    × (all_fit fits (per_place (place_form (fields_in l.file) l.numbers) (drop l.f (fields_in l.file))) (drop l.p (contents_of l.flat))
    ≡ all_fit fits (forms_of_places (fields_in l.file) l.numbers) (contents_of l.flat))
