-- What a party may tell apart: contents with the values hidden that it may not read, and numbers that agree where it may read.
use Rattle.std.specs.Prelude.{◌≡◌}
use Rattle.kit.specs.Names.{true, cond, List, map, ℕ, eqb, get_or}
use Rattle.definitions.specs.ContractFile.{Name, Field, Scope, parameter_at}
use Rattle.definitions.specs.Owners.{parameter_owner}
use Rattle.definitions.specs.Original.{anyone, may_read, reader_of}
use Rattle.definitions.specs.Ledger.{Content, plain, cell, State}
use Rattle.theory_relations.specs.Standing.{readers_of}

-- A content as a party sees it: "1 opaque has value 0; 2 is a cell of the viewing party".
unfoldable pub hidden : ℕ → Content → Content
hidden party (plain v) = plain v
hidden party (cell c) =
    cell (record { owner = c.owner; call = c.call; index = c.index; value = cond (eqb c.owner party) c.value 0 })

abbrev pub all_hidden : ℕ → List Content → List Content
all_hidden party contents = map (hidden party) contents

abbrev pub state_hidden : ℕ → State → State
state_hidden party s = record { places = all_hidden party s.places; variables = all_hidden party s.variables }

-- Two runs agree on the places that the party may read, and on the arguments that it may read.
pub record Agree (party : ℕ) (address_of : Name → ℕ) (fields : List Field) (numbers numbers' : List ℕ) : Type 0 where
  pub each : (p : ℕ) → may_read party (get_or (readers_of address_of fields) p anyone) ≡ true → get_or numbers p 0 ≡ get_or numbers' p 0

pub record ArgumentsAgree (party : ℕ) (address_of : Name → ℕ) (scope : Scope) (arguments arguments' : List ℕ) : Type 0 where
  pub each : (k : ℕ) → may_read party (reader_of address_of (parameter_owner (parameter_at scope.parameters k))) ≡ true
      → get_or arguments k 0 ≡ get_or arguments' k 0
