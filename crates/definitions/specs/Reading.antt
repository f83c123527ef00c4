-- 01, The contract file: its sections as they lie in the bytes, read into records of numbers. Nothing behind reading knows of layouts.
use Rattle.std.specs.Prelude.{◌∷◌, ◌+◌, ◌*◌, ◌-◌}
use Rattle.definitions.specs.Basics.{Bool, false, cond, List, [], ℕ, zero, suc, eqb, get_or, drop, slice, force}

-- "Numbers of several bytes are low byte first." A byte that is not there reads as 0.
abbrev pub byte_at : List ℕ → ℕ → ℕ
byte_at file at = get_or file at 0

abbrev pub two_bytes_at : List ℕ → ℕ → ℕ
two_bytes_at file at = byte_at file at + 256 * byte_at file (at + 1)

-- "each is shape .., type .., owner"
pub record FieldRecord : Type 0 where
  pub shape : ℕ
  pub type : ℕ
  pub owner : ℕ

-- "a type and an owner (0 or 1) for each parameter"
pub record ParameterRecord : Type 0 where
  pub type : ℕ
  pub owner : ℕ

-- "each is a one-byte parameter count, 0 to 8; a type and an owner .. for each parameter; a two-byte root node"
pub record FunctionRecord : Type 0 where
  pub parameters : List ParameterRecord
  pub root : ℕ

-- "each is kind, arg, then first, second and third of two bytes"
pub record NodeRecord : Type 0 where
  pub kind : ℕ
  pub arg : ℕ
  pub first : ℕ
  pub second : ℕ
  pub third : ℕ

-- "Sections stand in a fixed order, each after its count."
pub record Sections : Type 0 where
  pub fields : List FieldRecord
  pub functions : List FunctionRecord
  pub nodes : List NodeRecord

abbrev pub node : ℕ → ℕ → ℕ → ℕ → ℕ → NodeRecord
node kind arg first second third =
    record { kind = kind; arg = arg; first = first; second = second; third = third }

-- How a file lays out its codes. Records hold owner codes in document 01's own numbering whatever the layout: one-byte codes are
-- in it and stay as they are, two-byte codes have a numbering of their own.
pub record Layout : Type 0 where
  -- 02, Note 9: "the field count, every owner code and every arg take two bytes, low byte first"
  pub two_byte_codes : Bool
  -- A two-byte owner code in the records' numbering (65,535, which no table has, for one outside the layout's table), and back.
  pub code_read : ℕ → ℕ
  pub code_written : ℕ → ℕ

-- Document 01's own layout.
abbrev pub narrow : Layout
narrow = record { two_byte_codes = false; code_read = λ code. code; code_written = λ code. code }

module _ (layout : Layout) where
  abbrev pub code_size : ℕ
  code_size = cond layout.two_byte_codes 2 1

  abbrev pub code_at : List ℕ → ℕ → ℕ
  code_at file at = cond layout.two_byte_codes (two_bytes_at file at) (byte_at file at)

  abbrev pub owner_code_at : List ℕ → ℕ → ℕ
  owner_code_at file at = cond layout.two_byte_codes (layout.code_read (two_bytes_at file at)) (byte_at file at)

  -- "8 reveal first to owner code arg": the arg of no other kind is an owner code.
  abbrev pub arg_at : List ℕ → ℕ → ℕ
  arg_at file at =
      cond layout.two_byte_codes
      (cond (eqb (byte_at file at) 8) (layout.code_read (two_bytes_at file (at + 1))) (two_bytes_at file (at + 1)))
      (byte_at file (at + 1))

  abbrev pub fields_counted : List ℕ → ℕ
  fields_counted file = code_at file 0

  abbrev pub functions_begin : List ℕ → ℕ
  functions_begin file = code_size + (2 + code_size) * fields_counted file

  abbrev pub functions_counted : List ℕ → ℕ
  functions_counted file = byte_at file (functions_begin file)

  -- Where the function that begins at a position ends.
  abbrev pub function_passed : List ℕ → ℕ → ℕ
  function_passed file at = at + 1 + (1 + code_size) * byte_at file at + 2

  unfoldable pub functions_passed : ℕ → List ℕ → ℕ → ℕ
  functions_passed zero file at = at
  functions_passed (suc n) file at = force (function_passed file at) (functions_passed n file)

  unfoldable pub nodes_begin : List ℕ → ℕ
  nodes_begin file = functions_passed (functions_counted file) file (functions_begin file + 1)

  abbrev pub nodes_counted : List ℕ → ℕ
  nodes_counted file = two_bytes_at file (nodes_begin file)

  -- Where a file with these counts ends. A count past the end reads as 0, and its own place alone then lies past the end.
  abbrev pub file_passed : List ℕ → ℕ
  file_passed file = nodes_begin file + 2 + (7 + code_size) * nodes_counted file

  unfoldable pub fields_read : ℕ → List ℕ → ℕ → List FieldRecord
  fields_read zero file at = []
  fields_read (suc n) file at =
      record { shape = byte_at file at; type = byte_at file (at + 1); owner = owner_code_at file (at + 2) }
      ∷ fields_read n file (at + (2 + code_size))

  unfoldable pub parameters_read : ℕ → List ℕ → ℕ → List ParameterRecord
  parameters_read zero file at = []
  parameters_read (suc n) file at =
      record { type = byte_at file at; owner = owner_code_at file (at + 1) }
      ∷ parameters_read n file (at + (1 + code_size))

  abbrev pub function_read : List ℕ → ℕ → FunctionRecord
  function_read file at = record {
    parameters = parameters_read (byte_at file at) file (at + 1);
    root = two_bytes_at file (function_passed file at - 2);
  }

  unfoldable pub functions_read : ℕ → List ℕ → ℕ → List FunctionRecord
  functions_read zero file at = []
  functions_read (suc n) file at =
      function_read file at
      ∷ force (function_passed file at) (functions_read n file)

  abbrev pub node_read : List ℕ → ℕ → NodeRecord
  node_read file at =
      node (byte_at file at) (arg_at file at)
      (two_bytes_at file (at + (1 + code_size))) (two_bytes_at file (at + (3 + code_size))) (two_bytes_at file (at + (5 + code_size)))

  unfoldable pub nodes_read : ℕ → List ℕ → ℕ → List NodeRecord
  nodes_read zero file at = []
  nodes_read (suc n) file at = node_read file at ∷ nodes_read n file (at + (7 + code_size))

  unfoldable pub sections_read : List ℕ → Sections
  sections_read file =
      let functions = functions_read (functions_counted file) file (functions_begin file + 1) in
      record {
        fields = fields_read (fields_counted file) file code_size;
        functions = functions;
        nodes = force (nodes_begin file + 2) (nodes_read (nodes_counted file) file);
      }

  -- "Each section, count included, is handed back on request as that part of the caller's file (0 fields, 1 functions, 2 nodes)."
  unfoldable pub part_read : List ℕ → ℕ → List ℕ
  part_read file n =
      get_or (slice 0 (functions_begin file) file
      ∷ slice (functions_begin file) (nodes_begin file) file
      ∷ drop (nodes_begin file) file
      ∷ []) n []
