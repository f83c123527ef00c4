-- 01, Rewriting (004, figure 5): the rewritten contract as trees, and of an accepted one; the written file, to the byte;
-- what writing does with the lent output.
use Rattle.std.specs.Prelude.{◌&&◌, ◌∷◌, ◌++◌, ◌+◌, ◌-◌, ◌/◌, ◌%◌}
use Rattle.definitions.specs.Basics.{cond, List, [], ℕ, map, none, suc, length, eqb, ltb, drop}
use Rattle.definitions.specs.Basics.{any, flat_map, two_bytes, first_that_holds}
use Rattle.definitions.specs.Reading.{Layout, narrow}
use Rattle.definitions.specs.ContractFile.{DataType, Owner, everyone, is_everyone, Operator, Expression, Parameter, Field, boolean}
use Rattle.definitions.specs.ContractFile.{me_name, owned_by, Statement, Function, Contract, Scope, field_at, is_division, data_type_code}
use Rattle.definitions.specs.ContractFile.{shape_code, operator_code, NodeRecord, node, owner_code, field_owner_code, contract_in}
use Rattle.definitions.specs.Owners.{name_of, owner_of, place_owner}
use Rattle.definitions.specs.Numbers.{check_number, or_else}

-- An expression of a written body: "Nodes follow as in input, with 9 variable first".
pub data BodyExpression : Type 0 where
  constant : DataType → ℕ → BodyExpression
  me : BodyExpression
  field parameter variable : ℕ → BodyExpression
  entry : ℕ → BodyExpression → BodyExpression
  operator : Operator → BodyExpression → BodyExpression → BodyExpression
  negation : BodyExpression → BodyExpression

-- "The circuit keeps constants, me, operators and not"; "10 variable first opened".
pub data Circuit : Type 0 where
  constant : DataType → ℕ → Circuit
  me : Circuit
  operator : Operator → Circuit → Circuit → Circuit
  negation : Circuit → Circuit
  variable opened : ℕ → Circuit

-- A statement of a written body: ".. 22 variable first set to second, 23 verify".
pub data Command : Type 0 where
  skip verify : Command
  sequence : Command → Command → Command
  assign_field : ℕ → BodyExpression → Command
  assign_entry : ℕ → BodyExpression → BodyExpression → Command
  require : BodyExpression → Command
  conditional : BodyExpression → Command → Command → Command
  set_variable : ℕ → BodyExpression → Command

-- "Origins: 0 supplied plain, 1 supplied cell, 2 read plain, 3 read cell, 4 guard." With its owner, and the expression supplied or read.
pub data Variable : Type 0 where
  supplied read_from : Owner → Expression → Variable
  guard : Variable

-- What a constraint says: a variable, with its owner, is a circuit's value; or a variable opens for the caller.
pub data Claim : Type 0 where
  equals : ℕ → Owner → Circuit → Claim
  opens_for_caller : ℕ → Claim

-- "each guard (0, or 1 + variable)"
pub data Guard : Type 0 where
  always : Guard
  under : ℕ → Guard

pub record Constraint : Type 0 where
  pub guard : Guard
  pub claim : Claim

pub record WrittenFunction : Type 0 where
  pub parameters : List Parameter
  pub variables : List Variable
  pub constraints : List Constraint
  pub body : Command

pub record WrittenContract : Type 0 where
  pub fields : List Field
  pub functions : List WrittenFunction

-- A variable's origin, and its owner, which is everyone unless it holds a cell.
abbrev pub origin : Variable → ℕ
origin = elim [
  | supplied o e ↦ cond (is_everyone o) 0 1
  | read_from o e ↦ cond (is_everyone o) 2 3
  | guard ↦ 4
]

abbrev pub variable_owner : Variable → Owner
variable_owner = elim [ supplied o e ↦ o | read_from o e ↦ o | guard ↦ everyone ]

-- "set on the ledger just before the statement"
pub record Step : Type 0 where
  pub variable : ℕ
  pub value : BodyExpression

-- What rewriting a part makes: variables, the part's new form, the steps that set its reads, and what is claimed of its variables.
pub record Piece (A : Type 0) : Type 0 where
  pub variables : List Variable
  pub form : A
  pub steps : List Step
  pub claims : List Claim

abbrev pub piece : {A : Type 0} → List Variable → A → List Step → List Claim → Piece A
piece variables form steps claims =
    record { variables = variables; form = form; steps = steps; claims = claims }

-- "Each function has variables numbered from 0 as they are made": a piece, given the number of its first variable.
abbrev pub Generator : Type 0 → Type 0
Generator A = ℕ → Piece A

unfoldable pub kept : {A : Type 0} → A → Generator A
kept form i = piece [] form [] []

unfoldable pub one_part : {A B : Type 0} → (A → B) → Generator A → Generator B
one_part f part i =
    let a = part i in
    piece a.variables (f a.form) a.steps a.claims

-- "Parts are worked out and rewritten first, second, third."
unfoldable pub two_parts : {A B C : Type 0} → (A → B → C) → Generator A → Generator B → Generator C
two_parts f first second i =
    let a = first i in
    let b = second (i + length a.variables) in
    piece (a.variables ++ b.variables)
    (f a.form b.form)
    (a.steps ++ b.steps)
    (a.claims ++ b.claims)

-- "Supplying makes the variable, then turns its expression into circuit form, then adds a constraint."
unfoldable pub supplying : Owner → Expression → Generator Circuit → Generator BodyExpression
supplying o e circuit i =
    let c = circuit (suc i) in
    piece (supplied o e ∷ c.variables)
    (BodyExpression.variable i)
    c.steps
    (c.claims ++ (equals i o c.form ∷ []))

-- A read variable in a circuit: as it stands where plain, opened where a cell.
abbrev pub read_form : Owner → ℕ → Circuit
read_form o i = elim o [ everyone ↦ Circuit.variable i | owned_by n ↦ Circuit.opened i ]

-- "The read's own key or operands follow the body rule, and come before its variable."
unfoldable pub reading : Owner → Expression → Generator BodyExpression → Generator Circuit
reading o e value i =
    let v = value i in
    let j = i + length v.variables in
    piece (v.variables ++ (read_from o e ∷ []))
    (read_form o j)
    (v.steps ++ (record { variable = j; value = v.form } ∷ []))
    v.claims

-- An expression is rewritten given whose every expression is.
module _ (owner : Expression → Owner) where
  -- "The circuit keeps .. operators ..; replaces .. a public / or %, by a read variable"
  abbrev pub operator_in_circuit : Operator → Expression → Expression
      → Generator BodyExpression → Generator BodyExpression
      → Generator Circuit → Generator Circuit
      → Generator Circuit
  operator_in_circuit o left right left_body right_body left_circuit right_circuit =
      let e = Expression.operator o left right in
      cond (is_everyone (owner e) && is_division o)
      (reading everyone e (two_parts (BodyExpression.operator o) left_body right_body))
      (two_parts (Circuit.operator o) left_circuit right_circuit)

  unfoldable mutual
    -- "In the body, public expressions stay, except that a reveal to all becomes a supplied variable. A private place
    -- stays a place. A private operator or not is supplied as a cell of owner 1, a reveal as one of its target."
    pub in_body : Expression → Generator BodyExpression
    in_body (Expression.constant t v) = kept (BodyExpression.constant t v)
    in_body Expression.me = kept BodyExpression.me
    in_body (Expression.field f) = kept (BodyExpression.field f)
    in_body (Expression.entry f key) = one_part (BodyExpression.entry f) (in_body key)
    in_body (Expression.parameter k) = kept (BodyExpression.parameter k)
    in_body (Expression.operator o left right) =
        let e = Expression.operator o left right in
        cond (is_everyone (owner e))
        (two_parts (BodyExpression.operator o) (in_body left) (in_body right))
        (supplying (owned_by me_name) e (operator_in_circuit o left right (in_body left) (in_body right) (in_circuit left) (in_circuit right)))
    in_body (Expression.negation part) =
        cond (is_everyone (owner (Expression.negation part)))
        (one_part BodyExpression.negation (in_body part))
        (supplying (owned_by me_name) (Expression.negation part) (one_part Circuit.negation (in_circuit part)))
    in_body (Expression.reveal part o) = supplying o (Expression.reveal part o) (in_circuit part)

    -- "The circuit keeps constants, me, operators and not; passes through reveals;
    -- replaces a place, or a public / or %, by a read variable". "a read cell has its place's code".
    pub in_circuit : Expression → Generator Circuit
    in_circuit (Expression.constant t v) = kept (Circuit.constant t v)
    in_circuit Expression.me = kept Circuit.me
    in_circuit (Expression.field f) =
        reading (owner (Expression.field f))
        (Expression.field f)
        (kept (BodyExpression.field f))
    in_circuit (Expression.entry f key) =
        reading (owner (Expression.entry f key))
        (Expression.entry f key)
        (one_part (BodyExpression.entry f) (in_body key))
    in_circuit (Expression.parameter k) =
        reading (owner (Expression.parameter k))
        (Expression.parameter k)
        (kept (BodyExpression.parameter k))
    in_circuit (Expression.operator o left right) =
        operator_in_circuit o left right (in_body left) (in_body right) (in_circuit left) (in_circuit right)
    in_circuit (Expression.negation part) = one_part Circuit.negation (in_circuit part)
    in_circuit (Expression.reveal part o) = in_circuit part

  -- "A public value put into a private place is supplied as a cell of that place's owner code."
  abbrev pub in_place : Owner → Expression → Generator BodyExpression
  in_place everyone e = in_body e
  in_place (owned_by n) e = cond (is_everyone (owner e)) (supplying (owned_by n) e (in_circuit e)) (in_body e)

-- "Steps nest rightwards: (step, rest)"
unfoldable pub steps_before : List Step → Command → Command
steps_before [] rest = rest
steps_before (s ∷ steps) rest =
    Command.sequence (Command.set_variable s.variable s.value) (steps_before steps rest)

abbrev pub held_under : Guard → List Claim → List Constraint
held_under g claims = map (λ c. record { guard = g; claim = c }) claims

-- What rewriting a statement makes, given its innermost guard and the number of its first variable.
pub record Passage : Type 0 where
  pub variables : List Variable
  pub command : Command
  pub constraints : List Constraint

abbrev pub passage : List Variable → Command → List Constraint → Passage
passage variables command constraints =
    record { variables = variables; command = command; constraints = constraints }

abbrev pub StatementGenerator : Type 0
StatementGenerator = Guard → ℕ → Passage

unfoldable pub single : Generator Command → StatementGenerator
single m g i =
    let a = m i in
    passage a.variables
    (steps_before a.steps a.form)
    (held_under g a.claims)

unfoldable pub in_sequence : StatementGenerator → StatementGenerator → StatementGenerator
in_sequence first second g i =
    let a = first g i in
    let b = second g (i + length a.variables) in
    passage (a.variables ++ b.variables)
    (Command.sequence a.command b.command)
    (a.constraints ++ b.constraints)

-- "Each branch begins by setting a guard variable of its own to true; constraints inside hold under the innermost guard."
unfoldable pub in_branch : StatementGenerator → ℕ → Passage
in_branch inside i =
    let a = inside (under i) (suc i) in
    passage (guard ∷ a.variables)
    (Command.sequence (Command.set_variable i (BodyExpression.constant boolean 1)) a.command)
    a.constraints

unfoldable pub in_branches : Generator BodyExpression
    → StatementGenerator → StatementGenerator → StatementGenerator
in_branches condition then else g i =
    let c = condition i in
    let j = i + length c.variables in
    let a = in_branch then j in
    let b = in_branch else (j + length a.variables) in
    passage (c.variables ++ (a.variables ++ b.variables))
    (steps_before c.steps (Command.conditional c.form a.command b.command))
    (held_under g c.claims ++ (a.constraints ++ b.constraints))

unfoldable pub rewrite_statement : Scope → Statement → StatementGenerator
rewrite_statement scope Statement.skip = single (kept Command.skip)
rewrite_statement scope (Statement.sequence first second) =
    in_sequence (rewrite_statement scope first) (rewrite_statement scope second)
rewrite_statement scope (Statement.assign_field f value) =
    single (one_part (Command.assign_field f) (in_place (owner_of scope) (place_owner (field_at scope.fields f).owner none) value))
rewrite_statement scope (Statement.assign_entry f key value) =
    single (two_parts (Command.assign_entry f)
    (in_body (owner_of scope) key)
    (in_place (owner_of scope) (place_owner (field_at scope.fields f).owner (name_of scope key)) value))
rewrite_statement scope (Statement.require condition) = single (one_part Command.require (in_body (owner_of scope) condition))
rewrite_statement scope (Statement.conditional condition then else) =
    in_branches (in_body (owner_of scope) condition)
    (rewrite_statement scope then)
    (rewrite_statement scope else)

-- The numbers of the private parameters, of those from number k on.
unfoldable pub private_parameters : ℕ → List Parameter → List ℕ
private_parameters k [] = []
private_parameters k (p ∷ ps) =
    cond p.private
    (k ∷ private_parameters (suc k) ps)
    (private_parameters (suc k) ps)

-- "First, each private parameter is read, with a constraint that it opens for the caller."
unfoldable pub openings : List ℕ → Generator (Unit {0})
openings [] i = piece [] tt [] []
openings (k ∷ ks) i =
    let r = openings ks (suc i) in
    piece (read_from (owned_by me_name) (Expression.parameter k) ∷ r.variables)
    tt
    (record { variable = i; value = BodyExpression.parameter k } ∷ r.steps)
    (opens_for_caller i ∷ r.claims)

-- "A verify ends the body if any constraint exists."
abbrev pub with_verify : List Constraint → Command → Command
with_verify constraints body = elim constraints [ [] ↦ body | c ∷ cs ↦ Command.sequence body Command.verify ]

-- ".. where the function's rest is (body, verify)"
unfoldable pub rewrite_function : List Field → Function → WrittenFunction
rewrite_function fields g =
    let opening = openings (private_parameters 0 g.parameters) 0 in
    let inside = rewrite_statement (record { fields = fields; parameters = g.parameters }) g.body always (length opening.variables) in
    let constraints = held_under always opening.claims ++ inside.constraints in
    let body = steps_before opening.steps (with_verify constraints inside.command) in
    record {
      parameters = g.parameters;
      variables = opening.variables ++ inside.variables;
      constraints = constraints;
      body = body;
    }

unfoldable pub rewrite : Contract → WrittenContract
rewrite c = record {
  fields = c.fields;
  functions = map (rewrite_function c.fields) c.functions;
}

-- A tree of nodes to be numbered: kind and arg, the parts that are numbers, the parts that are children.
pub data Tree : Type 0 where
  leaf : ℕ → ℕ → ℕ → ℕ → Tree
  one_child : ℕ → ℕ → Tree → Tree
  two_children : ℕ → ℕ → Tree → Tree → Tree
  three_children : ℕ → Tree → Tree → Tree → Tree
  setting : ℕ → Tree → Tree

unfoldable pub size : Tree → ℕ
size (leaf kind arg first second) = 1
size (one_child kind arg first) = size first + 1
size (two_children kind arg first second) = size first + size second + 1
size (three_children kind first second third) = size first + size second + size third + 1
size (setting i value) = size value + 1

-- "Numbering is children first, left to right": the nodes of a tree whose first node has number n. A tree's root is its last node.
unfoldable pub numbered : ℕ → Tree → List NodeRecord
numbered n (leaf kind arg first second) = node kind arg first second 0 ∷ []
numbered n (one_child kind arg first) = numbered n first ++ (node kind arg (n + size first - 1) 0 0 ∷ [])
numbered n (two_children kind arg first second) =
    numbered n first
    ++ numbered (n + size first) second
    ++ (node kind arg (n + size first - 1) (n + size first + size second - 1) 0 ∷ [])
numbered n (three_children kind first second third) =
    numbered n first
    ++ numbered (n + size first) second
    ++ numbered (n + size first + size second) third
    ++ (node kind 0 (n + size first - 1) (n + size first + size second - 1) (n + size first + size second + size third - 1) ∷ [])
numbered n (setting i value) = numbered n value ++ (node 22 0 i (n + size value - 1) 0 ∷ [])

-- "Nodes follow as in input, with 9 variable first, 10 variable first opened, 22 variable first set to second, 23 verify."
unfoldable pub body_tree : BodyExpression → Tree
body_tree (BodyExpression.constant t v) = leaf 1 (data_type_code t) (v % 65536) (v / 65536)
body_tree BodyExpression.me = leaf 2 0 0 0
body_tree (BodyExpression.field f) = leaf 3 f 0 0
body_tree (BodyExpression.entry f key) = one_child 4 f (body_tree key)
body_tree (BodyExpression.parameter k) = leaf 5 k 0 0
body_tree (BodyExpression.operator o left right) =
    two_children 6 (operator_code o) (body_tree left) (body_tree right)
body_tree (BodyExpression.negation part) = one_child 7 0 (body_tree part)
body_tree (BodyExpression.variable i) = leaf 9 0 i 0

unfoldable pub circuit_tree : Circuit → Tree
circuit_tree (Circuit.constant t v) = leaf 1 (data_type_code t) (v % 65536) (v / 65536)
circuit_tree Circuit.me = leaf 2 0 0 0
circuit_tree (Circuit.operator o left right) =
    two_children 6 (operator_code o) (circuit_tree left) (circuit_tree right)
circuit_tree (Circuit.negation part) = one_child 7 0 (circuit_tree part)
circuit_tree (Circuit.variable i) = leaf 9 0 i 0
circuit_tree (Circuit.opened i) = leaf 10 0 i 0

unfoldable pub command_tree : Command → Tree
command_tree Command.skip = leaf 16 0 0 0
command_tree (Command.sequence first second) = two_children 17 0 (command_tree first) (command_tree second)
command_tree (Command.assign_field f value) = one_child 18 f (body_tree value)
command_tree (Command.assign_entry f key value) = two_children 19 f (body_tree key) (body_tree value)
command_tree (Command.require condition) = one_child 20 0 (body_tree condition)
command_tree (Command.conditional condition then else) =
    three_children 21 (body_tree condition) (command_tree then) (command_tree else)
command_tree (Command.set_variable i value) = setting i (body_tree value)
command_tree Command.verify = leaf 23 0 0 0

abbrev pub claim_trees : Claim → List Tree
claim_trees = elim [ equals i o circuit ↦ circuit_tree circuit ∷ [] | opens_for_caller i ↦ [] ]

-- "per function circuits, in constraint order, come before the body"
abbrev pub function_trees : WrittenFunction → List Tree
function_trees g =
    flat_map (λ c. claim_trees c.claim) g.constraints
    ++ (command_tree g.body ∷ [])

unfoldable pub sizes : List Tree → ℕ
sizes [] = 0
sizes (t ∷ ts) = size t + sizes ts

unfoldable pub numbered_all : ℕ → List Tree → List NodeRecord
numbered_all n [] = []
numbered_all n (t ∷ ts) = numbered n t ++ numbered_all (n + size t) ts

module _ (layout : Layout) where
  abbrev pub code_bytes : ℕ → List ℕ
  code_bytes n = cond layout.two_byte_codes (two_bytes n) (n ∷ [])

  abbrev pub owner_code_bytes : ℕ → List ℕ
  owner_code_bytes code = cond layout.two_byte_codes (two_bytes (layout.code_written code)) (code ∷ [])

  -- No arg of a written file is an owner code.
  abbrev pub node_written : NodeRecord → List ℕ
  node_written r = r.kind ∷ code_bytes r.arg ++ two_bytes r.first ++ two_bytes r.second ++ two_bytes r.third

  -- "Fields keep their layout; private ones get type 3 (cell), and so do private parameters."
  abbrev pub field_written : Field → List ℕ
  field_written d =
      shape_code d.shape
      ∷ cond (eqb (field_owner_code d.owner) 0) (data_type_code d.type) 3
      ∷ owner_code_bytes (field_owner_code d.owner)

  abbrev pub parameter_written : Parameter → List ℕ
  parameter_written p = cond p.private (3 ∷ owner_code_bytes 1) (data_type_code p.type ∷ owner_code_bytes 0)

  -- "each origin and owner code (0 unless a cell)"
  abbrev pub variable_written : Variable → List ℕ
  variable_written v = origin v ∷ owner_code_bytes (owner_code (variable_owner v))

  abbrev pub keys_written : List ℕ → List ℕ
  keys_written keys = cond layout.two_byte_codes (flat_map owner_code_bytes keys) keys

-- "owner codes needing keys (those of supplied cells), each once by first use"
abbrev pub key_of : Variable → List ℕ
key_of = elim [
  | supplied o e ↦ cond (is_everyone o) [] (owner_code o ∷ [])
  | read_from o e ↦ []
  | guard ↦ []
]

unfoldable pub each_once : List ℕ → List ℕ → List ℕ
each_once seen [] = []
each_once seen (k ∷ ks) =
    cond (any (eqb k) seen)
    (each_once seen ks)
    (k ∷ each_once (k ∷ seen) ks)

-- "each guard (0, or 1 + variable), variable, root (65,535 for "opens"), two bytes each"
abbrev pub guard_number : Guard → ℕ
guard_number = elim [ always ↦ 0 | under i ↦ 1 + i ]

abbrev pub claim_bytes : ℕ → Claim → List ℕ
claim_bytes n (equals i o circuit) = two_bytes i ++ two_bytes (n + size (circuit_tree circuit) - 1)
claim_bytes n (opens_for_caller i) = two_bytes i ++ two_bytes 65535

unfoldable pub constraint_bytes : ℕ → List Constraint → List ℕ
constraint_bytes n [] = []
constraint_bytes n (c ∷ cs) =
    two_bytes (guard_number c.guard)
    ++ claim_bytes n c.claim
    ++ constraint_bytes (n + sizes (claim_trees c.claim)) cs

module _ (layout : Layout) where
  -- "Written per function: parameters; two-byte count of variables ..; two-byte count of owner codes needing keys ..;
  -- two-byte count of constraints ..; body root." The function's first node has number n.
  unfoldable pub function_written : ℕ → WrittenFunction → List ℕ
  function_written n g =
      let keys = each_once [] (flat_map key_of g.variables) in
      (length g.parameters ∷ flat_map (parameter_written layout) g.parameters)
      ++ two_bytes (length g.variables)
      ++ flat_map (variable_written layout) g.variables
      ++ two_bytes (length keys)
      ++ keys_written layout keys
      ++ two_bytes (length g.constraints)
      ++ constraint_bytes n g.constraints
      ++ two_bytes (n + sizes (function_trees g) - 1)

  unfoldable pub functions_written : ℕ → List WrittenFunction → List ℕ
  functions_written n [] = []
  functions_written n (g ∷ gs) = function_written n g ++ functions_written (n + sizes (function_trees g)) gs

  unfoldable pub contract_written : WrittenContract → List ℕ
  contract_written c =
      let trees = flat_map function_trees c.functions in
      code_bytes layout (length c.fields)
      ++ flat_map (field_written layout) c.fields
      ++ (length c.functions ∷ functions_written 0 c.functions)
      ++ two_bytes (sizes trees)
      ++ flat_map (node_written layout) (numbered_all 0 trees)

-- In document 01's own layout.
abbrev pub node_bytes : NodeRecord → List ℕ
node_bytes = node_written narrow

abbrev pub field_bytes : Field → List ℕ
field_bytes = field_written narrow

abbrev pub parameter_bytes : Parameter → List ℕ
parameter_bytes = parameter_written narrow

abbrev pub variable_bytes : Variable → List ℕ
variable_bytes = variable_written narrow

abbrev pub function_bytes : ℕ → WrittenFunction → List ℕ
function_bytes = function_written narrow

abbrev pub functions_bytes : ℕ → List WrittenFunction → List ℕ
functions_bytes = functions_written narrow

abbrev pub contract_bytes : WrittenContract → List ℕ
contract_bytes = contract_written narrow

unfoldable pub written_file : List ℕ → List ℕ
written_file file = contract_bytes (rewrite (contract_in file))

-- "16. The lent output is too short"; "writing 1 to 16"
unfoldable pub write_number : List ℕ → ℕ → ℕ
write_number file room =
    or_else (check_number file) (first_that_holds 16 (ltb room (length (written_file file)) ∷ []))

-- "A refusal returns it with length 0 ..; lent memory .. keep their contents.
-- An accepted request changes only the output bytes that its length covers"
unfoldable pub written_length : List ℕ → ℕ → ℕ
written_length file room = cond (eqb (write_number file room) 0) (length (written_file file)) 0

unfoldable pub output_after_writing : List ℕ → List ℕ → List ℕ
output_after_writing file out =
    cond (eqb (write_number file (length out)) 0)
    (written_file file ++ drop (length (written_file file)) out)
    out
