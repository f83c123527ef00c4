-- What holds of a call's names, arguments and plain numbers while the original is worked out.
use Rattle.std.specs.Prelude.{◌≡◌}
use Rattle.kit.specs.Names.{true, List, ℕ, length, get_or}
use Rattle.definitions.specs.ContractFile.{DataType, boolean, address, Name, me_name, final_name, parameter_name, Field, Scope, field_at}
use Rattle.definitions.specs.ContractFile.{parameter_at, is_final, is_of_type}
use Rattle.definitions.specs.Owners.{is_public_address}
use Rattle.definitions.specs.Original.{position, per_place}

-- The data type of each place, in field order.
abbrev pub place_types : List Field → List DataType
place_types fields = per_place (λ d _. d.type) fields

pub record Environment (scope : Scope) (address_of : Name → ℕ) (values : List ℕ) (numbers : List ℕ) : Type 0 where
  pub caller : is_of_type address (address_of me_name) ≡ true
  pub finals : (f : ℕ) → is_final (field_at scope.fields f).shape ≡ true
      → get_or numbers (position scope.fields f 0) 0 ≡ address_of (final_name f)
  pub parameters : (k : ℕ) → is_public_address (parameter_at scope.parameters k) ≡ true → get_or values k 0 ≡ address_of (parameter_name k)
  pub arguments : (k : ℕ) → is_of_type (parameter_at scope.parameters k).type (get_or values k 0) ≡ true
  pub places : (p : ℕ) → is_of_type (get_or (place_types scope.fields) p boolean) (get_or numbers p 0) ≡ true
  pub extent : length numbers ≡ length (place_types scope.fields)
