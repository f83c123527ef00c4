-- When the contents of a ledger stand for the original's numbers.
use Rattle.std.specs.Prelude.{◌≡◌, ◌<◌}
use Rattle.kit.specs.Names.{List, ℕ, length, get_or}
use Rattle.definitions.specs.ContractFile.{Name, final_name, Field, Scope, parameter_at}
use Rattle.definitions.specs.Owners.{parameter_owner}
use Rattle.definitions.specs.Original.{per_place, Reader, anyone, reader_of, place_reader}
use Rattle.definitions.specs.Ledger.{Content, content_for, content_at}

-- A content stands for a number with its reader: plain where anyone may read it, else a cell of the reader's address.
pub record Stands (reader : Reader) (content : Content) (number : ℕ) : Type 0 where
  pub call : ℕ
  pub index : ℕ
  pub is : content ≡ content_for reader call index number

-- The reader of each place in a call, in field order.
abbrev pub readers_of : (Name → ℕ) → List Field → List Reader
readers_of address_of fields = per_place (λ d key. place_reader (λ f. address_of (final_name f)) d.owner key) fields

pub record AllStand (readers : List Reader) (contents : List Content) (numbers : List ℕ) : Type 0 where
  pub extent : length contents ≡ length numbers
  pub each : (p : ℕ) → Stands (get_or readers p anyone) (content_at contents p) (get_or numbers p 0)

-- Each declared parameter stands for its argument. Past the last one a parameter reads as private and a content as plain.
pub record ParametersStand (scope : Scope) (address_of : Name → ℕ) (contents : List Content) (arguments : List ℕ) : Type 0 where
  pub each :
      (k : ℕ) → k < length scope.parameters
      → Stands (reader_of address_of (parameter_owner (parameter_at scope.parameters k))) (content_at contents k) (get_or arguments k 0)
