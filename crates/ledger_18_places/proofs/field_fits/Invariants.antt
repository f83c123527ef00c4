-- Each turn tests one place more.
use Rattle.std.specs.Prelude.{◌≡◌, ◌+◌, ◌-◌}
use Rattle.kit.specs.Names.{drop}
use Rattle.definitions.specs.Ledger.{fits}
use Rattle.file_accepted.specs.Context.{fields_in}
use Rattle.ledger_contents.specs.Contents.{contents_of}
use Rattle.ledger_18_forms.specs.Forms.{front_fits}
use Rattle.ledger_18_places.specs.Places.{field_forms}
use Rattle.ledger_18_places.proofs.field_fits.Given as goal

abbrev pub invariant-loop-key : goal.invariant-loop-key
invariant-loop-key l =
    front_fits fits (field_forms (fields_in l.file) l.numbers l.f l.key (l.count - l.key)) (drop (l.p + l.key) (contents_of l.flat))
    ≡ front_fits fits (field_forms (fields_in l.file) l.numbers l.f 0 l.count) (drop l.p (contents_of l.flat))
