-- What acceptance gives of a contract's trees: numbers 3 and 8 to 15, as the theorems use them.
use Rattle.std.specs.Prelude.{◌≡◌, ◌&&◌}
use Rattle.kit.specs.Names.{Bool, true, List, [], ℕ}
use Rattle.definitions.specs.ContractFile.{DataType, to_everyone, to_final, Expression, constant, me, field, entry, parameter}
use Rattle.definitions.specs.ContractFile.{operator, negation, reveal, Statement, skip, sequence, assign_field, assign_entry, require}
use Rattle.definitions.specs.ContractFile.{conditional, Field, Scope, field_at, is_final, is_mapping, is_of_type}
use Rattle.definitions.specs.Owners.{no_links}
use Rattle.definitions.specs.Numbers.{statement_faults, is_tagged}

-- Number 3: "constant (.. bool 0 or 1, address 0 to 15)", at every constant of a tree.
unfoldable pub constants_fit : Expression → Bool
constants_fit (constant t v) = is_of_type t v
constants_fit me = true
constants_fit (field f) = true
constants_fit (entry f key) = constants_fit key
constants_fit (parameter k) = true
constants_fit (operator o left right) = constants_fit left && constants_fit right
constants_fit (negation part) = constants_fit part
constants_fit (reveal part o) = constants_fit part

unfoldable pub constants_fit_in : Statement → Bool
constants_fit_in skip = true
constants_fit_in (sequence first second) = constants_fit_in first && constants_fit_in second
constants_fit_in (assign_field f value) = constants_fit value
constants_fit_in (assign_entry f key value) = constants_fit key && constants_fit value
constants_fit_in (require condition) = constants_fit condition
constants_fit_in (conditional condition then else) = constants_fit condition && (constants_fit_in then && constants_fit_in else)

-- "A final has type 2 and owner 0. A field's owner is 0, 16+f, or 2 for a mapping only."; an owner code's field is final.
pub record FieldsFit (fields : List Field) : Type 0 where
  pub tagged : (f : ℕ) → is_tagged (field_at fields f).owner ≡ true → is_mapping (field_at fields f).shape ≡ true
  pub public : (f : ℕ) → is_final (field_at fields f).shape ≡ true → (field_at fields f).owner ≡ to_everyone
  pub address : (f : ℕ) → is_final (field_at fields f).shape ≡ true → (field_at fields f).type ≡ DataType.address
  pub owners : (f g : ℕ) → (field_at fields f).owner ≡ to_final g → is_final (field_at fields g).shape ≡ true

-- A function's body in its scope, as an accepted contract has it.
pub record AcceptedBody (scope : Scope) (body : Statement) : Type 0 where
  pub fields : FieldsFit scope.fields
  pub faultless : statement_faults scope no_links body ≡ []
  pub constants : constants_fit_in body ≡ true
