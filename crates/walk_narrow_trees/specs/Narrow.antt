-- Trees whose numbers fit the bytes that they are written to: fields and parameters of one byte, values of four, finals with an owner code.
use Rattle.std.specs.Prelude.{◌≡◌, ◌-◌, ◌<◌}
use Rattle.kit.specs.Names.{List, none, ℕ}
use Rattle.definitions.specs.ContractFile.{Expression, Statement, Scope, field_at, byte_at}
use Rattle.definitions.specs.Basics.{flat_map}
use Rattle.definitions.specs.Rewriting.{WrittenFunction, sizes, numbered_all, node_bytes, function_trees}
use Rattle.definitions.specs.Owners.{name_of, place_owner}
use Rattle.write_trees.specs.Trees.{command_in}
use Rattle.write_trees.specs.Table.{count_of, table_of, Readable}
use Rattle.ledger_circuits.specs.Circuits.{constraints_from}
use Rattle.write_trees.specs.Numbers.{constraint_numbers}
use Rattle.walk_constraints.specs.Numbers.{HasCode}

-- Each of a list's numbers is a byte's.
pub record Bytes (file : List ℕ) : Type 0 where
  pub small : (i : ℕ) → byte_at file i < 256

unfoldable pub NarrowExpression : Expression → Type 0
NarrowExpression (Expression.constant t v) = v < 4294967296
NarrowExpression Expression.me = Unit {0}
NarrowExpression (Expression.field f) = f < 256
NarrowExpression (Expression.entry f key) = (f < 256) × NarrowExpression key
NarrowExpression (Expression.parameter k) = k < 256
NarrowExpression (Expression.operator o left right) = NarrowExpression left × NarrowExpression right
NarrowExpression (Expression.negation part) = NarrowExpression part
NarrowExpression (Expression.reveal part o) = NarrowExpression part × HasCode o

unfoldable pub NarrowStatement : Statement → Type 0
NarrowStatement Statement.skip = Unit {0}
NarrowStatement (Statement.sequence first second) = NarrowStatement first × NarrowStatement second
NarrowStatement (Statement.assign_field f value) = (f < 256) × NarrowExpression value
NarrowStatement (Statement.assign_entry f key value) = (f < 256) × (NarrowExpression key × NarrowExpression value)
NarrowStatement (Statement.require condition) = NarrowExpression condition
NarrowStatement (Statement.conditional condition then else) = NarrowExpression condition × (NarrowStatement then × NarrowStatement else)

-- The owner of a place has a code, whatever names its key.
pub record CodedScope (scope : Scope) : Type 0 where
  pub field : (f : ℕ) → HasCode (place_owner (field_at scope.fields f).owner none)
  pub entry : (f : ℕ) (key : Expression) → HasCode (place_owner (field_at scope.fields f).owner (name_of scope key))

-- The bytes of a function's nodes, numbered from 0.
abbrev pub function_nodes : WrittenFunction → List ℕ
function_nodes w = flat_map node_bytes (numbered_all 0 (function_trees w))

-- They are as many nodes as its trees have, and say its body at their root and, by their numbers, its constraints.
pub record WrittenBack (w : WrittenFunction) : Type 0 where
  pub count : count_of (function_nodes w) ≡ sizes (function_trees w)
  pub readable : Readable (function_nodes w)
  pub body : command_in (table_of (function_nodes w)) (sizes (function_trees w) - 1) ≡ w.body
  pub constraints : constraints_from (table_of (function_nodes w)) (constraint_numbers 0 w.constraints) ≡ w.constraints
