-- A function's scope as the decoded slices hold it, and what numbers 2 to 4 leave of them: all that judging relies on.
use Rattle.std.specs.Prelude.{◌≡◌, ◌+◌, ◌*◌, ◌/◌, ◌<◌, ◌≤◌}
use Rattle.kit.specs.Names.{true, false, not, List, map, ℕ, eqb, leb, length}
use Rattle.definitions.specs.Basics.{any}
use Rattle.definitions.specs.ContractFile.{Field, Parameter, Scope, field_at, parameter_at, data_type_code, shape_code, field_of, parameter_of}
use Rattle.definitions.specs.ContractFile.{node_of, children, fields_named}
use Rattle.definitions.specs.Numbers.{field_in_tables, parameter_in_tables, node_in_tables, field_of_declared_owner}
use Rattle.file_decoded.specs.Slices.{field_from, fields_from, parameter_from, parameters_from, node_from}
use Rattle.rules_owners.specs.Numbering.{declared_owner}
use Rattle.rules_scopes.specs.declared.Declared.{Declared}
use Rattle.rules_scopes.specs.declared.Given.{Given}

-- The contract's fields, and the parameters of one function.
abbrev pub scope_from : List ℕ → List ℕ → Scope
scope_from fields parameters = record {
  fields = map field_of (fields_from (length fields / 3) fields 0);
  parameters = map parameter_of (parameters_from (length parameters / 2) parameters 0);
}

abbrev pub field_on : List ℕ → ℕ → Field
field_on fields f = field_at (map field_of (fields_from (length fields / 3) fields 0)) f

abbrev pub parameter_on : List ℕ → ℕ → Parameter
parameter_on parameters k = parameter_at (map parameter_of (parameters_from (length parameters / 2) parameters 0)) k

-- A field as code holds it, in a contract of so many fields. An owner that is a final is one of them.
pub record IsField (fields : ℕ) (d : Field) (r : Declared) : Type 0 where
  pub shape : shape_code d.shape ≡ r.shape
  pub type : data_type_code d.type ≡ r.kind
  pub owner : d.owner ≡ declared_owner r.owner r.tagged
  pub listed : r.owner < 10 + fields
  pub final : 0 < r.owner → 10 ≤ r.owner

-- A parameter as code holds it. A public one is there, and then its number is below 8.
pub record IsParameter (k : ℕ) (p : Parameter) (r : Given) : Type 0 where
  pub type : data_type_code p.type ≡ r.kind
  pub private : p.private ≡ not (eqb r.owner 0)
  pub present : r.owner ≡ 0 → k < 8

pub record FieldsReady (fields : List ℕ) : Type 0 where
  pub few : length fields ≤ 192
  pub listed : (f : ℕ) → f < length fields / 3 → field_in_tables (field_from fields (3 * f)) ≡ true
  pub named : (f : ℕ) → f < length fields / 3
      → any (leb (length fields / 3)) (field_of_declared_owner (field_of (field_from fields (3 * f))).owner) ≡ false

pub record ParametersReady (parameters : List ℕ) : Type 0 where
  pub few : length parameters ≤ 16
  pub listed : (k : ℕ) → k < length parameters / 2 → parameter_in_tables (parameter_from parameters (2 * k)) ≡ true

pub record NodesReady (fields nodes : List ℕ) : Type 0 where
  pub few : length nodes ≤ 2560
  pub listed : (n : ℕ) → n < length nodes / 5 → node_in_tables (node_from nodes (5 * n)) ≡ true
  pub named : (n : ℕ) → n < length nodes / 5 → any (leb (length fields / 3)) (fields_named (node_of (node_from nodes (5 * n)))) ≡ false
  pub falling : (n : ℕ) → n < length nodes / 5 → any (leb n) (children (node_of (node_from nodes (5 * n)))) ≡ false

-- Where a function's nodes are judged: the slices, and as many classes of names as there are owners' numbers.
pub record Ready (fields parameters nodes : List ℕ) (classes : ℕ) : Type 0 where
  pub declared : FieldsReady fields
  pub given : ParametersReady parameters
  pub bodies : NodesReady fields nodes
  pub numbered : classes ≡ 10 + length fields / 3
