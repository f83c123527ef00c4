-- A layout beside document 01's own, to try reading with, and a file's sections laid out in it.
use Rattle.std.specs.Prelude.{◌&&◌, ◌∷◌, ◌++◌, ◌+◌, ◌-◌}
use Rattle.kit.specs.Names.{true, cond, List, [], ℕ, eqb, leb, ltb, length}
use Rattle.definitions.specs.Basics.{two_bytes}
use Rattle.definitions.specs.Reading.{Layout, FieldRecord, ParameterRecord, FunctionRecord, NodeRecord, Sections}
use Rattle.definitions.specs.ContractFile.{is_final_code, is_parameter_code, sections_of}
use Rattle.definitions.specs.Rewriting.{code_bytes, owner_code_bytes}

-- 02, Note 9: "finals are 256+f (f 0 to 399), parameters 4,096+k". The records' numbering has no finals above 63 yet.
abbrev pub wide_read : ℕ → ℕ
wide_read code =
    cond (leb code 2) code
    (cond (leb 256 code && ltb code 320) (code - 240)
    (cond (leb 4096 code && ltb code 4104) (code - 3968) 65535))

abbrev pub wide_written : ℕ → ℕ
wide_written code =
    cond (leb code 2) code
    (cond (is_final_code code) (code + 240)
    (cond (is_parameter_code code) (code + 3968) 65535))

abbrev pub wide : Layout
wide = record { two_byte_codes = true; code_read = wide_read; code_written = wide_written }

-- Sections in a layout, each part before the rest of the file.
module _ (layout : Layout) where
  unfoldable pub fields_laid : List FieldRecord → List ℕ → List ℕ
  fields_laid [] rest = rest
  fields_laid (r ∷ rs) rest = r.shape ∷ r.type ∷ owner_code_bytes layout r.owner ++ fields_laid rs rest

  unfoldable pub parameters_laid : List ParameterRecord → List ℕ → List ℕ
  parameters_laid [] rest = rest
  parameters_laid (r ∷ rs) rest = r.type ∷ owner_code_bytes layout r.owner ++ parameters_laid rs rest

  unfoldable pub functions_laid : List FunctionRecord → List ℕ → List ℕ
  functions_laid [] rest = rest
  functions_laid (r ∷ rs) rest =
      length r.parameters ∷ parameters_laid r.parameters (two_bytes r.root ++ functions_laid rs rest)

  -- "8 reveal first to owner code arg"
  abbrev pub arg_laid : NodeRecord → List ℕ
  arg_laid r = cond (eqb r.kind 8) (owner_code_bytes layout r.arg) (code_bytes layout r.arg)

  unfoldable pub nodes_laid : List NodeRecord → List ℕ
  nodes_laid [] = []
  nodes_laid (r ∷ rs) =
      r.kind ∷ arg_laid r ++ (two_bytes r.first ++ (two_bytes r.second ++ (two_bytes r.third ++ nodes_laid rs)))

  unfoldable pub sections_laid : Sections → List ℕ
  sections_laid s =
      code_bytes layout (length s.fields)
      ++ fields_laid s.fields (length s.functions
      ∷ functions_laid s.functions (two_bytes (length s.nodes) ++ nodes_laid s.nodes))

-- 02, Note 9: a narrow file's "widened copy".
abbrev pub widened : List ℕ → List ℕ
widened file = sections_laid wide (sections_of file)
