-- The forms of a contract's places.
use Rattle.kit.specs.Names.{List, map, zip_with, ℕ}
use Rattle.definitions.specs.ContractFile.{Field, field_at}
use Rattle.definitions.specs.Original.{numbers_from, per_place, place_reader, place_readers, final_address}
use Rattle.definitions.specs.Ledger.{Form}

-- The form of a field's place at a key, on places that hold these plain numbers.
abbrev pub place_form : List Field → List ℕ → Field → ℕ → Form
place_form fields numbers d key = record { type = d.type; reader = place_reader (final_address fields numbers) d.owner key }

-- The forms of field f's places, from a key on.
abbrev pub field_forms : List Field → List ℕ → ℕ → ℕ → ℕ → List Form
field_forms fields numbers f key count = map (place_form fields numbers (field_at fields f)) (numbers_from key count)

-- The forms of all places, as number 18 has them.
abbrev pub forms_of_places : List Field → List ℕ → List Form
forms_of_places fields numbers =
    zip_with (λ t r. record { type = t; reader = r }) (per_place (λ d _. d.type) fields) (place_readers fields numbers)
