-- The numbers that the decoder makes of a file's sections, and what decoding a whole file leaves in the slices.
use Rattle.std.specs.Prelude.{◌≡◌, ◌∷◌, ◌++◌, ◌+◌, ◌*◌, ◌/◌, ◌≤◌}
use Rattle.kit.specs.Names.{List, [], ℕ, zero, suc, length}
use Rattle.definitions.specs.ContractFile.{byte_at, function_end, functions_end, function_record, file_end, sections_of}
use Rattle.file_bytes.specs.declared.Layout.{Layout}
use Rattle.file_bytes.specs.Layout.{IsLayout}
use Rattle.file_decoded.specs.Slices.{sections_from, ParametersInside, Narrow}
use Rattle.file_node_decoder.specs.Numbers.{bytes_at, node_numbers}

unfoldable pub nodes_numbers : ℕ → List ℕ → ℕ → List ℕ
nodes_numbers zero file at = []
nodes_numbers (suc count) file at = node_numbers file at ++ nodes_numbers count file (at + 8)

-- A function whose parameters begin at a place of their slice.
abbrev pub function_numbers : List ℕ → ℕ → ℕ → List ℕ
function_numbers file at first = first ∷ byte_at file at ∷ (function_record file at).root ∷ []

abbrev pub own_numbers : List ℕ → ℕ → List ℕ
own_numbers file at = bytes_at file (at + 1) (2 * byte_at file at)

unfoldable pub functions_numbers : ℕ → List ℕ → ℕ → ℕ → List ℕ
functions_numbers zero file at first = []
functions_numbers (suc count) file at first =
    function_numbers file at first ++ functions_numbers count file (function_end file at) (first + 2 * byte_at file at)

unfoldable pub parameters_numbers : ℕ → List ℕ → ℕ → List ℕ
parameters_numbers zero file at = []
parameters_numbers (suc count) file at = own_numbers file at ++ parameters_numbers count file (function_end file at)

-- The function's bytes are there, and so is room for its numbers and those of its parameters.
pub record FunctionRoom (file : List ℕ) (from : ℕ) (functions : List ℕ) (at : ℕ) (parameters : List ℕ) (first : ℕ) : Type 0 where
  pub there : function_end file from ≤ length file
  pub numbers : at + 3 ≤ length functions
  pub for_parameters : first + 2 * byte_at file from ≤ length parameters
  pub small : first ≤ 65535

-- The functions' bytes are there, and the slice for parameters is as long as they are all together.
pub record FunctionsRoom (file : List ℕ) (from : ℕ) (functions parameters : List ℕ) : Type 0 where
  pub there : functions_end (length functions / 3) file from ≤ length file
  pub exact : from + 3 * (length functions / 3) + length parameters ≡ functions_end (length functions / 3) file from
  pub small : length parameters ≤ 65535

-- A file of right counts, and slices as long as they say.
pub record Decodable (file : List ℕ) (l : Layout) (fields functions parameters nodes : List ℕ) : Type 0 where
  pub layout : IsLayout file l
  pub ends : length file ≡ file_end file
  pub for_fields : length fields ≡ 3 * l.fields
  pub for_functions : length functions ≡ 3 * l.functions
  pub for_parameters : l.functions_at + 1 + 3 * l.functions + length parameters ≡ l.nodes_at
  pub for_nodes : length nodes ≡ 5 * l.nodes
  pub small : length parameters ≤ 65535

-- The slices hold the file's sections.
pub record Decoded (file fields functions parameters nodes : List ℕ) : Type 0 where
  pub are : sections_from fields functions parameters nodes ≡ sections_of file
  pub inside : ParametersInside functions parameters
  pub narrow : Narrow nodes
