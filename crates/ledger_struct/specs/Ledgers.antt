-- The ledger of the definitions that a ledger of the code is.
use Rattle.std.specs.Prelude.{◌≡◌, ◌*◌, ◌≤◌}
use Rattle.kit.specs.Names.{List, map, ℕ, length, take}
use Rattle.definitions.specs.Ledger as ledger
use Rattle.ledger_contents.specs.Contents.{content_of_place, contents_of}
use Rattle.ledger_contents.specs.declared.Place.{Place}
use Rattle.ledger_struct.specs.declared.LastCall.{LastCall}
use Rattle.ledger_struct.specs.declared.Ledger.{Ledger}

-- The contents of as many places as counted.
abbrev pub contents_in : ℕ → List Place → List ledger.Content
contents_in count places = map content_of_place (take count places)

unfoldable pub ledger_of : Ledger → ledger.Ledger
ledger_of l =
    record {
      file = take l.file_length l.file;
      call = l.call;
      function = l.function;
      caller = l.caller;
      outcome = l.outcome;
      parameters = contents_in l.parameter_count l.parameters;
      variables = contents_in l.variable_count l.variables;
      places = contents_in l.place_count l.places;
    }

-- The ledger whose parts stand apart: its file, its last call, and contents as flat numbers.
unfoldable pub ledger_from : List ℕ → LastCall → List ℕ → List ℕ → List ledger.Content → ledger.Ledger
ledger_from file last parameters variables places =
    record {
      file = file;
      call = last.call;
      function = last.function;
      caller = last.caller;
      outcome = last.outcome;
      parameters = contents_of parameters;
      variables = contents_of variables;
      places = places;
    }

-- Contents at the front of flat numbers, with room for so many.
pub record Flat (contents : List ledger.Content) (flat : List ℕ) (room count : ℕ) : Type 0 where
  pub stand : contents_of (take count flat) ≡ contents
  pub size : length flat ≡ 5 * room
  pub fits : count ≤ 5 * room
