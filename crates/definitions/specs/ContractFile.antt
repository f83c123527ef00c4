-- 01, The contract file: what a file says, as trees; the sections of a file in document 01's own layout; the codes;
-- the trees that its nodes make; data types.
use Rattle.std.specs.Prelude.{◌||◌, ◌&&◌, ◌∷◌, ◌+◌, ◌*◌, ◌-◌, ◌++◌}
use Rattle.definitions.specs.Basics.{Bool, true, false, List, [], ℕ, eqb, get_or, cond, not, zero, suc}
use Rattle.definitions.specs.Basics.{leb, ltb, map, largest}
pub use Rattle.definitions.specs.Reading.{byte_at, two_bytes_at, FieldRecord, ParameterRecord, FunctionRecord, NodeRecord, Sections}
pub use Rattle.definitions.specs.Reading.{node}
use Rattle.definitions.specs.Reading.{narrow, fields_counted, functions_begin, functions_counted, function_passed, functions_passed}
use Rattle.definitions.specs.Reading.{nodes_begin, nodes_counted, file_passed, fields_read, parameters_read, function_read, functions_read}
use Rattle.definitions.specs.Reading.{node_read, nodes_read, sections_read, part_read}

-- "type (0 bool, 1 uint, 2 address)"
pub data DataType : Type 0 where
  boolean uint address : DataType

-- "shape (0 plain, 1 final, 2 mapping from address)"
pub data Shape : Type 0 where
  plain_field final_field mapping : Shape

-- 01, Owners: "A name is me, a final, or a public address parameter."
pub data Name : Type 0 where
  me_name : Name
  final_name parameter_name : ℕ → Name

-- An owner of a value: "0 all, 1 me (the caller), .. 16+f final field f .., 128+k parameter k".
pub data Owner : Type 0 where
  everyone : Owner
  owned_by : Name → Owner

-- "A field's owner is 0, 16+f, or 2 for a mapping only."
pub data FieldOwner : Type 0 where
  to_everyone to_key : FieldOwner
  to_final : ℕ → FieldOwner

-- "Operators: 0 +, 1 −, 2 ×, 3 /, 4 %, 5 <, 6 ≤, 7 ==, 8 !=, 9 and, 10 or."
pub data Operator : Type 0 where
  plus minus times divide remainder
      less less_or_equal equal unequal
      conjunction disjunction : Operator

-- Kinds 1 to 8.
pub data Expression : Type 0 where
  constant : DataType → ℕ → Expression
  me : Expression
  field parameter : ℕ → Expression
  entry : ℕ → Expression → Expression
  operator : Operator → Expression → Expression → Expression
  negation : Expression → Expression
  reveal : Expression → Owner → Expression

-- Kinds 16 to 21.
pub data Statement : Type 0 where
  skip : Statement
  sequence : Statement → Statement → Statement
  assign_field : ℕ → Expression → Statement
  assign_entry : ℕ → Expression → Expression → Statement
  require : Expression → Statement
  conditional : Expression → Statement → Statement → Statement

pub record Field : Type 0 where
  pub shape : Shape
  pub type : DataType
  pub owner : FieldOwner

-- "a type and an owner (0 or 1) for each parameter"
pub record Parameter : Type 0 where
  pub type : DataType
  pub private : Bool

pub record Function : Type 0 where
  pub parameters : List Parameter
  pub body : Statement

pub record Contract : Type 0 where
  pub fields : List Field
  pub functions : List Function

-- What the names in a function's body can mean: the contract's fields and the function's own parameters.
pub record Scope : Type 0 where
  pub fields : List Field
  pub parameters : List Parameter

abbrev pub field_at : List Field → ℕ → Field
field_at fields f = get_or fields f (record { shape = plain_field; type = boolean; owner = to_everyone })

abbrev pub parameter_at : List Parameter → ℕ → Parameter
parameter_at parameters k = get_or parameters k (record { type = boolean; private = true })

abbrev pub function_at : List Function → ℕ → Function
function_at functions f = get_or functions f (record { parameters = []; body = skip })

abbrev pub scope_of : Contract → ℕ → Scope
scope_of contract f = record {
  fields = contract.fields;
  parameters = (function_at contract.functions f).parameters;
}

-- A type's and a shape's number.
abbrev pub data_type_code : DataType → ℕ
data_type_code = elim [ boolean ↦ 0 | uint ↦ 1 | address ↦ 2 ]

abbrev pub same_type : DataType → DataType → Bool
same_type a b = eqb (data_type_code a) (data_type_code b)

abbrev pub shape_code : Shape → ℕ
shape_code = elim [ plain_field ↦ 0 | final_field ↦ 1 | mapping ↦ 2 ]

abbrev pub is_final : Shape → Bool
is_final s = eqb (shape_code s) 1

abbrev pub is_mapping : Shape → Bool
is_mapping s = eqb (shape_code s) 2

unfoldable pub same_name : Name → Name → Bool
same_name me_name = elim [ me_name ↦ true | final_name g ↦ false | parameter_name j ↦ false ]
same_name (final_name f) = elim [ me_name ↦ false | final_name g ↦ eqb f g | parameter_name j ↦ false ]
same_name (parameter_name k) = elim [ me_name ↦ false | final_name g ↦ false | parameter_name j ↦ eqb k j ]

abbrev pub is_everyone : Owner → Bool
is_everyone = elim [ everyone ↦ true | owned_by n ↦ false ]

-- An operator's number.
abbrev pub operator_code : Operator → ℕ
operator_code = elim [
  | plus ↦ 0
  | minus ↦ 1
  | times ↦ 2
  | divide ↦ 3
  | remainder ↦ 4
  | less ↦ 5
  | less_or_equal ↦ 6
  | equal ↦ 7
  | unequal ↦ 8
  | conjunction ↦ 9
  | disjunction ↦ 10
]

abbrev pub is_operator : Operator → Operator → Bool
is_operator o p = eqb (operator_code o) (operator_code p)

abbrev pub is_division : Operator → Bool
is_division o = is_operator o divide || is_operator o remainder

-- Document 01's own layout: "Fields: one-byte count, 0 to 64"; an owner code and an arg are one byte.
abbrev pub field_count : List ℕ → ℕ
field_count = fields_counted narrow

abbrev pub functions_at : List ℕ → ℕ
functions_at = functions_begin narrow

abbrev pub function_count : List ℕ → ℕ
function_count = functions_counted narrow

abbrev pub function_end : List ℕ → ℕ → ℕ
function_end = function_passed narrow

abbrev pub functions_end : ℕ → List ℕ → ℕ → ℕ
functions_end = functions_passed narrow

abbrev pub nodes_at : List ℕ → ℕ
nodes_at = nodes_begin narrow

abbrev pub node_count : List ℕ → ℕ
node_count = nodes_counted narrow

abbrev pub file_end : List ℕ → ℕ
file_end = file_passed narrow

abbrev pub field_records : ℕ → List ℕ → ℕ → List FieldRecord
field_records = fields_read narrow

abbrev pub parameter_records : ℕ → List ℕ → ℕ → List ParameterRecord
parameter_records = parameters_read narrow

abbrev pub function_record : List ℕ → ℕ → FunctionRecord
function_record = function_read narrow

abbrev pub function_records : ℕ → List ℕ → ℕ → List FunctionRecord
function_records = functions_read narrow

abbrev pub node_record : List ℕ → ℕ → NodeRecord
node_record = node_read narrow

abbrev pub node_records : ℕ → List ℕ → ℕ → List NodeRecord
node_records = nodes_read narrow

abbrev pub sections_of : List ℕ → Sections
sections_of = sections_read narrow

abbrev pub section_part : List ℕ → ℕ → List ℕ
section_part = part_read narrow

-- The codes, as what they mean. Which codes are in the tables is number 3's to say; others read as the last of the list.
abbrev pub data_type_of : ℕ → DataType
data_type_of code = cond (eqb code 0) boolean (cond (eqb code 1) uint address)

abbrev pub shape_of : ℕ → Shape
shape_of code = cond (eqb code 0) plain_field (cond (eqb code 1) final_field mapping)

-- "Owner codes: 0 all, 1 me (the caller), 2 the mapping's key, 16+f final field f (f 0 to 63), 128+k parameter k (k 0 to 7)."
abbrev pub is_final_code : ℕ → Bool
is_final_code code = leb 16 code && ltb code 80

abbrev pub is_parameter_code : ℕ → Bool
is_parameter_code code = leb 128 code && ltb code 136

abbrev pub owner_of_code : ℕ → Owner
owner_of_code code =
    cond (eqb code 0) everyone
    (cond (eqb code 1) (owned_by me_name)
    (cond (is_final_code code) (owned_by (final_name (code - 16))) (owned_by (parameter_name (code - 128)))))

abbrev pub field_owner_of_code : ℕ → FieldOwner
field_owner_of_code code = cond (eqb code 0) to_everyone (cond (eqb code 2) to_key (to_final (code - 16)))

abbrev pub owner_code : Owner → ℕ
owner_code = elim [
  | everyone ↦ 0
  | owned_by n ↦ elim n [ me_name ↦ 1 | final_name f ↦ 16 + f | parameter_name k ↦ 128 + k ]
]

abbrev pub field_owner_code : FieldOwner → ℕ
field_owner_code = elim [ to_everyone ↦ 0 | to_key ↦ 2 | to_final f ↦ 16 + f ]

-- "Operators: 0 +, 1 −, 2 ×, 3 /, 4 %, 5 <, 6 ≤, 7 ==, 8 !=, 9 and, 10 or."
abbrev pub operator_of : ℕ → Operator
operator_of code =
    get_or (plus ∷ minus ∷ times ∷ divide ∷ remainder
    ∷ less ∷ less_or_equal ∷ equal ∷ unequal
    ∷ conjunction ∷ disjunction ∷ []) code plus

unfoldable pub field_of : FieldRecord → Field
field_of r = record {
  shape = shape_of r.shape;
  type = data_type_of r.type;
  owner = field_owner_of_code r.owner;
}

unfoldable pub parameter_of : ParameterRecord → Parameter
parameter_of r = record { type = data_type_of r.type; private = not (eqb r.owner 0) }

-- "Kinds (decimal)"
pub data Kind : Type 0 where
  constant_kind me_kind field_kind entry_kind parameter_kind operator_kind negation_kind reveal_kind : Kind
  skip_kind sequence_kind assign_field_kind assign_entry_kind require_kind conditional_kind no_kind : Kind

unfoldable pub kind_of : ℕ → Kind
kind_of n =
    cond (eqb n 1) constant_kind
    (cond (eqb n 2) me_kind
    (cond (eqb n 3) field_kind
    (cond (eqb n 4) entry_kind
    (cond (eqb n 5) parameter_kind
    (cond (eqb n 6) operator_kind
    (cond (eqb n 7) negation_kind
    (cond (eqb n 8) reveal_kind
    (cond (eqb n 16) skip_kind
    (cond (eqb n 17) sequence_kind
    (cond (eqb n 18) assign_field_kind
    (cond (eqb n 19) assign_entry_kind
    (cond (eqb n 20) require_kind
    (cond (eqb n 21) conditional_kind no_kind)))))))))))))

-- A node as its kind uses it: the fields that it names, "in owner codes too"; its children, those that are due to be
-- expressions and then those that are due to be statements; the tree that it makes of theirs.
pub data Node : Type 0 where
  expression_node : (fields expressions : List ℕ)
      → ((ℕ → Expression) → Expression)
      → Node
  statement_node : (fields expressions statements : List ℕ)
      → ((ℕ → Expression) → (ℕ → Statement) → Statement)
      → Node
  unknown_node : Node

-- "1 constant (arg type; value first + 65,536 × second ..)"
abbrev pub constant_value : NodeRecord → ℕ
constant_value r = r.first + 65536 * r.second

abbrev pub field_of_owner : Owner → List ℕ
field_of_owner = elim [
  | everyone ↦ []
  | owned_by n ↦ elim n [ me_name ↦ [] | final_name f ↦ f ∷ [] | parameter_name k ↦ [] ]
]

-- "2 me; 3 field (arg); 4 entry of mapping arg at key first; 5 parameter arg; 6 operator arg on first, second; 7 not;
-- 8 reveal first to owner code arg ..;
-- 16 skip; 17 sequence; 18 field arg takes first; 19 entry of arg at first takes second; 20 require; 21 if first, then second, else third."
unfoldable pub node_of_kind : Kind → NodeRecord → Node
node_of_kind constant_kind r = expression_node [] [] (λ below. constant (data_type_of r.arg) (constant_value r))
node_of_kind me_kind r = expression_node [] [] (λ below. me)
node_of_kind field_kind r = expression_node (r.arg ∷ []) [] (λ below. field r.arg)
node_of_kind entry_kind r =
    expression_node (r.arg ∷ []) (r.first ∷ [])
    (λ below. entry r.arg (below r.first))
node_of_kind parameter_kind r = expression_node [] [] (λ below. parameter r.arg)
node_of_kind operator_kind r =
    expression_node [] (r.first ∷ r.second ∷ [])
    (λ below. operator (operator_of r.arg) (below r.first) (below r.second))
node_of_kind negation_kind r = expression_node [] (r.first ∷ []) (λ below. negation (below r.first))
node_of_kind reveal_kind r =
    expression_node (field_of_owner (owner_of_code r.arg)) (r.first ∷ [])
    (λ below. reveal (below r.first) (owner_of_code r.arg))
node_of_kind skip_kind r = statement_node [] [] [] (λ expression below. skip)
node_of_kind sequence_kind r =
    statement_node [] [] (r.first ∷ r.second ∷ [])
    (λ expression below. sequence (below r.first) (below r.second))
node_of_kind assign_field_kind r =
    statement_node (r.arg ∷ []) (r.first ∷ []) []
    (λ expression below. assign_field r.arg (expression r.first))
node_of_kind assign_entry_kind r =
    statement_node (r.arg ∷ []) (r.first ∷ r.second ∷ []) []
    (λ expression below. assign_entry r.arg (expression r.first) (expression r.second))
node_of_kind require_kind r =
    statement_node [] (r.first ∷ []) []
    (λ expression below. require (expression r.first))
node_of_kind conditional_kind r =
    statement_node [] (r.first ∷ []) (r.second ∷ r.third ∷ [])
    (λ expression below. conditional (expression r.first) (below r.second) (below r.third))
node_of_kind no_kind r = unknown_node

abbrev pub node_of : NodeRecord → Node
node_of r = node_of_kind (kind_of r.kind) r

abbrev pub node_at : List Node → ℕ → Node
node_at nodes n = get_or nodes n unknown_node

unfoldable pub fields_named : Node → List ℕ
fields_named = elim [
  | expression_node fields _ _ ↦ fields
  | statement_node fields _ _ _ ↦ fields
  | unknown_node ↦ []
]

unfoldable pub expression_parts : Node → List ℕ
expression_parts = elim [
  | expression_node _ expressions _ ↦ expressions
  | statement_node _ expressions _ _ ↦ expressions
  | unknown_node ↦ []
]

unfoldable pub statement_parts : Node → List ℕ
statement_parts = elim [
  | expression_node _ _ _ ↦ []
  | statement_node _ _ statements _ ↦ statements
  | unknown_node ↦ []
]

abbrev pub children : Node → List ℕ
children node = expression_parts node ++ statement_parts node

abbrev pub is_expression : Node → Bool
is_expression = elim [
  | expression_node _ _ _ ↦ true
  | statement_node _ _ _ _ ↦ false
  | unknown_node ↦ false
]

abbrev pub is_statement : Node → Bool
is_statement = elim [
  | expression_node _ _ _ ↦ false
  | statement_node _ _ _ _ ↦ true
  | unknown_node ↦ false
]

-- How many nodes the longest chain from node n to a leaf has. Children's numbers fall, so n + 1 levels hold all of node n's tree.
unfoldable pub chain_length : ℕ → List Node → ℕ → ℕ
chain_length zero nodes n = 0
chain_length (suc levels) nodes n =
    suc (largest (map (chain_length levels nodes) (children (node_at nodes n))))

unfoldable pub expression_of : Node → (ℕ → Expression) → Expression
expression_of node below = elim node [
  | expression_node _ _ make ↦ make below
  | statement_node _ _ _ _ ↦ me
  | unknown_node ↦ me
]

unfoldable pub expression_at : ℕ → List Node → ℕ → Expression
expression_at zero nodes n = me
expression_at (suc levels) nodes n = expression_of (node_at nodes n) (expression_at levels nodes)

unfoldable pub statement_of : Node → (ℕ → Expression) → (ℕ → Statement) → Statement
statement_of node expression below = elim node [
  | expression_node _ _ _ ↦ skip
  | statement_node _ _ _ make ↦ make expression below
  | unknown_node ↦ skip
]

unfoldable pub statement_at : ℕ → List Node → ℕ → Statement
statement_at zero nodes n = skip
statement_at (suc levels) nodes n =
    statement_of (node_at nodes n) (expression_at levels nodes) (statement_at levels nodes)

abbrev pub function_of : List Node → FunctionRecord → Function
function_of nodes r = record {
  parameters = map parameter_of r.parameters;
  body = statement_at (suc r.root) nodes r.root;
}

unfoldable pub contract_of : Sections → Contract
contract_of s =
    let nodes = map node_of s.nodes in
    record {
      fields = map field_of s.fields;
      functions = map (function_of nodes) s.functions;
    }

abbrev pub contract_in : List ℕ → Contract
contract_in file = contract_of (sections_of file)

-- "bool 0 or 1, address 0 to 15"; "Uint arithmetic is modulo 4,294,967,296."
abbrev pub is_of_type : DataType → ℕ → Bool
is_of_type t v = ltb v (elim t [ boolean ↦ 2 | uint ↦ 4294967296 | address ↦ 16 ])

-- "Operators 0 to 6 take uints, 7 and 8 two equal types, 9 and 10 bools"
abbrev pub operands_fit : Operator → DataType → DataType → Bool
operands_fit o left right =
    cond (leb (operator_code o) 6) (same_type left uint && same_type right uint)
    (cond (leb (operator_code o) 8) (same_type left right) (same_type left boolean && same_type right boolean))

-- Arithmetic gives uints, a comparison or a truth function bools.
abbrev pub result_type : Operator → DataType
result_type o = cond (leb (operator_code o) 4) uint boolean

module _ (scope : Scope) where
  unfoldable pub type_of : Expression → DataType
  type_of (constant t v) = t
  type_of me = address
  type_of (field f) = (field_at scope.fields f).type
  type_of (entry f key) = (field_at scope.fields f).type
  type_of (parameter k) = (parameter_at scope.parameters k).type
  type_of (operator o left right) = result_type o
  type_of (negation part) = boolean
  type_of (reveal part o) = type_of part
