-- What code may rely on when it reads the nodes of a function in an accepted file.
-- The function begins at a known place; the nodes are decoded.
use Rattle.std.specs.Prelude.{◌≡◌, ◌+◌, ◌*◌, ◌<◌, ◌≤◌}
use Rattle.kit.specs.Names.{true, List, map, ℕ, length, ltb}
use Rattle.definitions.specs.Basics.{all}
use Rattle.definitions.specs.ContractFile.{Field, Parameter, Scope, FieldRecord, ParameterRecord, byte_at, field_count, nodes_at, node_count}
use Rattle.definitions.specs.ContractFile.{node_record, parameter_records, sections_of, field_of, parameter_of, Node, node_of, node_at}
use Rattle.definitions.specs.ContractFile.{children, is_expression, is_statement, expression_parts, statement_parts}
use Rattle.definitions.specs.Numbers.{field_in_tables, node_in_tables}
use Rattle.theory_trees.specs.Trees.{Falling}
use Rattle.file_decoded.specs.Slices.{record_at, Narrow}

unfoldable pub nodes_in : List ℕ → List Node
nodes_in file = map node_of (sections_of file).nodes

unfoldable pub fields_in : List ℕ → List Field
fields_in file = map field_of (sections_of file).fields

-- The parameters of the function that begins at a place.
unfoldable pub parameters_in : List ℕ → ℕ → List Parameter
parameters_in file at = map parameter_of (parameter_records (byte_at file at) file (at + 1))

abbrev pub scope_in : List ℕ → ℕ → Scope
scope_in file at = record { fields = fields_in file; parameters = parameters_in file at }

abbrev pub field_record_at : List ℕ → ℕ → FieldRecord
field_record_at file f = record { shape = byte_at file (1 + 3 * f); type = byte_at file (1 + 3 * f + 1); owner = byte_at file (1 + 3 * f + 2) }

abbrev pub parameter_record_at : List ℕ → ℕ → ℕ → ParameterRecord
parameter_record_at file at k = record { type = byte_at file (at + 1 + 2 * k); owner = byte_at file (at + 1 + 2 * k + 1) }

-- A slice that holds the file's nodes, each as five numbers.
pub record Source (file source : List ℕ) : Type 0 where
  pub read : (n : ℕ) → n < node_count file → record_at source n ≡ node_record file (nodes_at file + 2 + 8 * n)
  pub long : length source ≡ 5 * node_count file
  pub narrow : Narrow source

-- Numbers 2, 3, 4 and 7 of the file.
pub record Known (file : List ℕ) (function_start : ℕ) : Type 0 where
  pub near_function : function_start ≤ 200000
  pub few_fields : field_count file ≤ 64
  pub few_parameters : byte_at file function_start ≤ 8
  pub few_nodes : node_count file ≤ 512
  pub field_listed : (f : ℕ) → f < field_count file → field_in_tables (field_record_at file f) ≡ true
  pub node_listed : (n : ℕ) → n < node_count file → node_in_tables (node_record file (nodes_at file + 2 + 8 * n)) ≡ true
  pub falling : Falling (nodes_in file)
  pub expressions_due : (n : ℕ)
      → all (λ child. is_expression (node_at (nodes_in file) child)) (expression_parts (node_at (nodes_in file) n)) ≡ true
  pub statements_due : (n : ℕ) → all (λ child. is_statement (node_at (nodes_in file) child)) (statement_parts (node_at (nodes_in file) n)) ≡ true

-- The same, with the file's nodes in a slice. Of Falling one half stands here: the other holds of every file's nodes.
pub record Context (file : List ℕ) (function_start : ℕ) (source : List ℕ) : Type 0 where
  pub read : (n : ℕ) → n < node_count file → record_at source n ≡ node_record file (nodes_at file + 2 + 8 * n)
  pub long : length source ≡ 5 * node_count file
  pub narrow : Narrow source
  pub near_function : function_start ≤ 200000
  pub few_fields : field_count file ≤ 64
  pub few_parameters : byte_at file function_start ≤ 8
  pub few_nodes : node_count file ≤ 512
  pub field_listed : (f : ℕ) → f < field_count file → field_in_tables (field_record_at file f) ≡ true
  pub node_listed : (n : ℕ) → n < node_count file → node_in_tables (record_at source n) ≡ true
  pub below : (n : ℕ) → all (λ child. ltb child n) (children (node_at (nodes_in file) n)) ≡ true
  pub expressions_due : (n : ℕ)
      → all (λ child. is_expression (node_at (nodes_in file) child)) (expression_parts (node_at (nodes_in file) n)) ≡ true
  pub statements_due : (n : ℕ) → all (λ child. is_statement (node_at (nodes_in file) child)) (statement_parts (node_at (nodes_in file) n)) ≡ true
