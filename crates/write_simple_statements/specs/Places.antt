-- What a value put into a place becomes: it matters whether the place is private, and not whose it is.
use Rattle.std.specs.Prelude.{◌≡◌, ◌&&◌, ◌+◌}
use Rattle.kit.specs.Names.{Bool, cond, not, List, Option, ℕ}
use Rattle.definitions.specs.ContractFile.{Name, Expression, Scope, field_at, is_everyone}
use Rattle.definitions.specs.Owners.{is_public, place_owner}
use Rattle.definitions.specs.Rewriting.{Tree, leaf}
use Rattle.file_accepted.specs.Context.{fields_in}
use Rattle.write_variable_counts.specs.Counts.{body_count, circuit_count}
use Rattle.write_reads.specs.Forms.{body_form}

-- "A public value put into a private place is supplied"
abbrev pub placed_form : Scope → Bool → Expression → ℕ → Tree
placed_form scope private e i = cond (private && is_public scope e) (leaf 9 0 i 0) (body_form scope e i)

abbrev pub placed_count : Scope → Bool → Expression → ℕ
placed_count scope private e = cond (private && is_public scope e) (circuit_count scope e + 1) (body_count scope e)

-- The places of a field are private or not, whatever the key is.
pub record PrivatePlace (file : List ℕ) (f : ℕ) (private : Bool) : Type 0 where
  pub test : (key : Option Name) → private ≡ not (is_everyone (place_owner (field_at (fields_in file) f).owner key))
