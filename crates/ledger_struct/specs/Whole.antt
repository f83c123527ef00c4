-- The one ledger of the code that a ledger of the definitions makes, and what a call hands back: no part of a struct is left open.
use Rattle.std.specs.Prelude.{◌≡◌, ◌++◌, ◌-◌}
use Rattle.kit.specs.Names.{cond, List, map, ℕ, length, replicate}
use Rattle.definitions.specs.Basics.{is_zero}
use Rattle.definitions.specs.Ledger as ledger
use Rattle.ledger_contents.specs.declared.Content.{Content}
use Rattle.ledger_contents.specs.declared.Content.TheVariants.{Plain, Cell}
use Rattle.ledger_contents.specs.declared.Place.{Place}
use Rattle.ledger_struct.specs.declared.Ledger.{Ledger}
use Rattle.ledger_struct.specs.Ledgers.{ledger_of}

-- A list filled up to a length.
unfoldable pub padded : {A : Type 0} → ℕ → A → List A → List A
padded n filler l = l ++ replicate (n - length l) filler

abbrev pub code_of : ledger.Content → Content
code_of (ledger.Content.plain v) = Plain v
code_of (ledger.Content.cell k) = Cell (record { owner = k.owner; call = k.call; index = k.index; value = k.value })

abbrev pub place_of : ledger.Content → Place
place_of content = record { content = code_of content }

abbrev pub zero_place : Place
zero_place = record { content = Plain 0 }

-- Contents in so many places; what stands behind them is plain 0.
unfoldable pub places_for : ℕ → List ledger.Content → List Place
places_for room contents = padded room zero_place (map place_of contents)

-- What a deployment hands back: every part of the struct is told by the ledger.
unfoldable pub struct_of : ledger.Ledger → Ledger
struct_of l =
    record {
      file = padded 4596 0 l.file;
      file_length = length l.file;
      call = l.call;
      function = l.function;
      caller = l.caller;
      outcome = l.outcome;
      parameters = places_for 8 l.parameters;
      parameter_count = length l.parameters;
      variables = places_for 1024 l.variables;
      variable_count = length l.variables;
      places = places_for 1024 l.places;
      place_count = length l.places;
    }

-- What a call hands back that is made: the file as it was given, the last call with its parameters and variables. "A failed call restores
-- every place": they too are as they were given.
unfoldable pub laid_over : Ledger → ledger.Ledger → Ledger
laid_over given l =
    record {
      file = given.file;
      file_length = given.file_length;
      call = l.call;
      function = l.function;
      caller = l.caller;
      outcome = l.outcome;
      parameters = places_for 8 l.parameters;
      parameter_count = length l.parameters;
      variables = places_for 1024 l.variables;
      variable_count = length l.variables;
      places = cond (is_zero l.outcome) (places_for 1024 l.places) given.places;
      place_count = cond (is_zero l.outcome) (length l.places) given.place_count;
    }

-- A ledger laid over one that was given, and what it means.
pub record Laid (given : Ledger) (after : ledger.Ledger) (r : Ledger) : Type 0 where
  pub means : ledger_of r ≡ after
  pub whole : r ≡ laid_over given after
