-- A contract file's sections as numbers one behind another: three for a field (shape, type, owner), two for a parameter (type, owner),
-- three for a function (where its parameters begin, how many there are, its root), five for a node.
use Rattle.std.specs.Prelude.{◌≡◌, ◌∷◌, ◌+◌, ◌*◌, ◌/◌, ◌%◌, ◌≤◌}
use Rattle.kit.specs.Names.{List, [], ℕ, zero, suc, length, get_or}
use Rattle.definitions.specs.ContractFile.{FieldRecord, ParameterRecord, FunctionRecord, NodeRecord, Sections, node}

-- The number at a place; one that is not there reads as 0.
abbrev pub number_at : List ℕ → ℕ → ℕ
number_at numbers at = get_or numbers at 0

abbrev pub field_from : List ℕ → ℕ → FieldRecord
field_from numbers at = record { shape = number_at numbers at; type = number_at numbers (at + 1); owner = number_at numbers (at + 2) }

unfoldable pub fields_from : ℕ → List ℕ → ℕ → List FieldRecord
fields_from zero numbers at = []
fields_from (suc count) numbers at = field_from numbers at ∷ fields_from count numbers (at + 3)

abbrev pub parameter_from : List ℕ → ℕ → ParameterRecord
parameter_from numbers at = record { type = number_at numbers at; owner = number_at numbers (at + 1) }

unfoldable pub parameters_from : ℕ → List ℕ → ℕ → List ParameterRecord
parameters_from zero numbers at = []
parameters_from (suc count) numbers at = parameter_from numbers at ∷ parameters_from count numbers (at + 2)

abbrev pub function_from : List ℕ → List ℕ → ℕ → FunctionRecord
function_from parameters numbers at = record {
  parameters = parameters_from (number_at numbers (at + 1)) parameters (number_at numbers at);
  root = number_at numbers (at + 2);
}

unfoldable pub functions_from : List ℕ → ℕ → List ℕ → ℕ → List FunctionRecord
functions_from parameters zero numbers at = []
functions_from parameters (suc count) numbers at = function_from parameters numbers at ∷ functions_from parameters count numbers (at + 3)

abbrev pub node_from : List ℕ → ℕ → NodeRecord
node_from numbers at =
    node (number_at numbers at) (number_at numbers (at + 1))
    (number_at numbers (at + 2)) (number_at numbers (at + 3)) (number_at numbers (at + 4))

unfoldable pub nodes_from : ℕ → List ℕ → ℕ → List NodeRecord
nodes_from zero numbers at = []
nodes_from (suc count) numbers at = node_from numbers at ∷ nodes_from count numbers (at + 5)

-- Node n's record.
abbrev pub record_at : List ℕ → ℕ → NodeRecord
record_at nodes n = node_from nodes (5 * n)

-- Every node's kind and arg are numbers of one byte.
pub record Narrow (nodes : List ℕ) : Type 0 where
  pub kind : (n : ℕ) → 5 * n + 5 ≤ length nodes → number_at nodes (5 * n) ≤ 255
  pub arg : (n : ℕ) → 5 * n + 5 ≤ length nodes → number_at nodes (5 * n + 1) ≤ 255

-- The sections that four slices hold: each has as many records as its numbers make.
abbrev pub sections_from : List ℕ → List ℕ → List ℕ → List ℕ → Sections
sections_from fields functions parameters nodes = record {
  fields = fields_from (length fields / 3) fields 0;
  functions = functions_from parameters (length functions / 3) functions 0;
  nodes = nodes_from (length nodes / 5) nodes 0;
}

-- Every function's parameters lie in their slice.
pub record ParametersInside (functions parameters : List ℕ) : Type 0 where
  pub each : (f : ℕ) → 3 * f + 3 ≤ length functions
      → number_at functions (3 * f) + 2 * number_at functions (3 * f + 1) ≤ length parameters

-- Whole records, and no more of them than number 2 lets pass.
pub record Shaped (functions nodes : List ℕ) : Type 0 where
  pub whole_functions : length functions % 3 ≡ 0
  pub whole_nodes : length nodes % 5 ≡ 0
  pub few_functions : length functions ≤ 48
  pub few_nodes : length nodes ≤ 2560
