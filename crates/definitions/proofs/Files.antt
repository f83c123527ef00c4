-- Contract files, written files and views for the table of cases, put together from their parts. Nothing here uses the definitions that the
-- table pins: what is expected must not lean on them.
use mathlib.Core.List.{List, [], ◌∷◌, ◌++◌}
use Prim.Native.Nat.{ℕ, zero, suc, ◌-◌, ◌/◌, ◌%◌}
use lib.ListN.{length}

unfoldable pub joined : List (List ℕ) → List ℕ
joined [] = []
joined (bytes ∷ more) = bytes ++ joined more

abbrev pub two : ℕ → List ℕ
two n = n % 256 ∷ n / 256 ∷ []

abbrev pub four : ℕ → List ℕ
four n = n % 256 ∷ n / 256 % 256 ∷ n / 65536 % 256 ∷ n / 16777216 ∷ []

-- A file's parts, as document 01 lays them out: fields of three bytes, functions, nodes of eight.
abbrev pub field : ℕ → ℕ → ℕ → List ℕ
field shape type owner = shape ∷ type ∷ owner ∷ []

abbrev pub parameter : ℕ → ℕ → List ℕ
parameter type owner = type ∷ owner ∷ []

abbrev pub function : List (List ℕ) → ℕ → List ℕ
function parameters root = (length parameters ∷ joined parameters) ++ two root

abbrev pub node : ℕ → ℕ → ℕ → ℕ → ℕ → List ℕ
node kind arg first second third = kind ∷ arg ∷ two first ++ two second ++ two third

abbrev pub file : List (List ℕ) → List (List ℕ) → List (List ℕ) → List ℕ
file fields functions nodes =
    (length fields ∷ joined fields) ++ (length functions ∷ joined functions) ++ two (length nodes) ++ joined nodes

-- Fields: a final; public ones; those owned by the final that is field 0; mappings, with tags and without. As cells in a written file.
abbrev pub final_field : List ℕ
final_field = field 1 2 0

abbrev pub uint_field : List ℕ
uint_field = field 0 1 0

abbrev pub uint_of_first : List ℕ
uint_of_first = field 0 1 16

abbrev pub uint_mapping : List ℕ
uint_mapping = field 2 1 0

abbrev pub tagged_mapping : List ℕ
tagged_mapping = field 2 1 2

abbrev pub tagged_bools : List ℕ
tagged_bools = field 2 0 2

abbrev pub cell_of_first : List ℕ
cell_of_first = field 0 3 16

abbrev pub tagged_cells : List ℕ
tagged_cells = field 2 3 2

-- Parameters.
abbrev pub public_bool : List ℕ
public_bool = parameter 0 0

abbrev pub public_uint : List ℕ
public_uint = parameter 1 0

abbrev pub public_address : List ℕ
public_address = parameter 2 0

abbrev pub private_bool : List ℕ
private_bool = parameter 0 1

abbrev pub private_uint : List ℕ
private_uint = parameter 1 1

abbrev pub private_address : List ℕ
private_address = parameter 2 1

abbrev pub private_cell : List ℕ
private_cell = parameter 3 1

-- Nodes by kind. A child is told by its number.
abbrev pub constant : ℕ → ℕ → List ℕ
constant type value = node 1 type (value % 65536) (value / 65536) 0

abbrev pub me : List ℕ
me = node 2 0 0 0 0

abbrev pub field_read : ℕ → List ℕ
field_read f = node 3 f 0 0 0

abbrev pub entry_read : ℕ → ℕ → List ℕ
entry_read f key = node 4 f key 0 0

abbrev pub parameter_read : ℕ → List ℕ
parameter_read k = node 5 k 0 0 0

abbrev pub operator : ℕ → ℕ → ℕ → List ℕ
operator o left right = node 6 o left right 0

abbrev pub negation : ℕ → List ℕ
negation part = node 7 0 part 0 0

abbrev pub reveal : ℕ → ℕ → List ℕ
reveal part owner = node 8 owner part 0 0

abbrev pub skip : List ℕ
skip = node 16 0 0 0 0

abbrev pub sequence : ℕ → ℕ → List ℕ
sequence first second = node 17 0 first second 0

abbrev pub assign : ℕ → ℕ → List ℕ
assign f value = node 18 f value 0 0

abbrev pub assign_entry : ℕ → ℕ → ℕ → List ℕ
assign_entry f key value = node 19 f key value 0

abbrev pub require : ℕ → List ℕ
require condition = node 20 0 condition 0 0

abbrev pub conditional : ℕ → ℕ → ℕ → List ℕ
conditional condition then else = node 21 0 condition then else

-- What only a written file has.
abbrev pub variable_read : ℕ → List ℕ
variable_read i = node 9 0 i 0 0

abbrev pub variable_opened : ℕ → List ℕ
variable_opened i = node 10 0 i 0 0

abbrev pub set_variable : ℕ → ℕ → List ℕ
set_variable i value = node 22 0 i value 0

abbrev pub verify : List ℕ
verify = node 23 0 0 0 0

abbrev pub variable : ℕ → ℕ → List ℕ
variable origin owner = origin ∷ owner ∷ []

abbrev pub constraint : ℕ → ℕ → ℕ → List ℕ
constraint guard i root = two guard ++ two i ++ two root

abbrev pub written_function : List (List ℕ) → List (List ℕ) → List ℕ → List (List ℕ) → ℕ → List ℕ
written_function parameters variables keys constraints root =
    (length parameters ∷ joined parameters)
    ++ two (length variables)
    ++ joined variables
    ++ two (length keys)
    ++ keys
    ++ two (length constraints)
    ++ joined constraints
    ++ two root

-- A view: its head, and items of ten bytes.
abbrev pub view : ℕ → ℕ → ℕ → ℕ → List (List ℕ) → List ℕ
view call function caller outcome items = two call ++ (function ∷ caller ∷ outcome ∷ joined items)

abbrev pub plain_item : ℕ → List ℕ
plain_item value = (0 ∷ 0 ∷ 0 ∷ 0 ∷ 0 ∷ 0 ∷ []) ++ four value

abbrev pub opaque_item : ℕ → ℕ → ℕ → List ℕ
opaque_item owner call index = (1 ∷ owner ∷ two call) ++ two index ++ four 0

abbrev pub open_item : ℕ → ℕ → ℕ → ℕ → List ℕ
open_item owner call index value = (2 ∷ owner ∷ two call) ++ two index ++ four value

-- Another contract with file A's fields and parameter: final h, uint `count` owned by h, private uint r. Its root is its last node.
abbrev pub contract : List (List ℕ) → List ℕ
contract nodes = file (final_field ∷ uint_of_first ∷ []) (function (private_uint ∷ []) (length nodes - 1) ∷ []) nodes

-- A require of so many nodes in a chain: not of not of .. true.
unfoldable pub negations : ℕ → ℕ → List (List ℕ)
negations zero n = require (n - 1) ∷ []
negations (suc more) n = negation (n - 1) ∷ negations more (suc n)

abbrev pub chain : ℕ → List ℕ
chain n = contract (constant 0 1 ∷ negations (n - 2) 1)
