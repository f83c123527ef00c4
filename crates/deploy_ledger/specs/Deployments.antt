-- What the parts of a deployment write.
use Rattle.std.specs.Prelude.{◌≡◌, ◌++◌, ◌+◌, ◌<◌, ◌≤◌}
use Rattle.kit.specs.Names.{List, map, zip_with, ℕ, length, get_or, drop}
use Rattle.memory_buffer.specs.Buffer.{stored}
use Rattle.definitions.specs.ContractFile.{Field, field_at, field_count}
use Rattle.definitions.specs.Original.{Reader, numbers_from, place_reader, place_readers, final_address}
use Rattle.definitions.specs.Ledger as ledger
use Rattle.file_accepted.specs.Context.{fields_in}
use Rattle.ledger_contents.specs.declared.Place.{Place}
use Rattle.ledger_struct.specs.Ledgers.{contents_in}
use Rattle.ledger_struct.specs.Whole.{places_for}

-- Numbers written at the front, and how many they are.
pub record Numbers (written before after : List ℕ) (count : ℕ) : Type 0 where
  pub stand : after ≡ stored before 0 written
  pub many : count ≡ length written
  pub few : count ≤ 1024

-- Deployed contents: serial 0, 0.
unfoldable pub contents_for : List Reader → List ℕ → List ledger.Content
contents_for readers numbers = zip_with (λ reader n. ledger.content_for reader 0 0 n) readers numbers

-- Who can read a field's places, from a key on.
abbrev pub readers_of : List Field → List ℕ → ℕ → ℕ → ℕ → List Reader
readers_of fields numbers f key count = map (place_reader (final_address fields numbers) (field_at fields f).owner) (numbers_from key count)

-- The contents of one field's places, which stand from p on.
abbrev pub field_contents : List Field → List ℕ → ℕ → ℕ → ℕ → List ledger.Content
field_contents fields numbers f p count = contents_for (readers_of fields numbers f 0 count) (drop p numbers)

-- A file and numbers that deployment takes: places for all, and each number a byte.
pub record Deployable (file numbers : List ℕ) : Type 0 where
  pub few_fields : field_count file ≤ 64
  pub per_place : length numbers ≡ length (place_readers (fields_in file) numbers)
  pub few_places : length numbers ≤ 1024
  pub bytes : (i : ℕ) → get_or numbers i 0 < 256

-- Nothing stands behind as many places as counted.
abbrev pub Tidy : ℕ → List Place → Type 0
Tidy count places = places ≡ places_for 1024 (contents_in count places)

pub record FieldStands (file numbers : List ℕ) (f p count : ℕ) (before after : List Place) : Type 0 where
  pub stands : contents_in (p + count) after ≡ contents_in p before ++ field_contents (fields_in file) numbers f p count
  pub tidy : Tidy p before → Tidy (p + count) after

pub record PlacesStand (file numbers : List ℕ) (after : List Place) : Type 0 where
  pub whole : after ≡ places_for 1024 (contents_for (place_readers (fields_in file) numbers) numbers)
