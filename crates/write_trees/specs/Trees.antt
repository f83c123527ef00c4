-- A table of written nodes read back: a node's tree by its kind, and what a tree says as a body, a circuit or a command.
use Rattle.std.specs.Prelude.{◌||◌, ◌∷◌, ◌+◌, ◌*◌, ◌<◌}
use Rattle.kit.specs.Names.{cond, List, [], ℕ, zero, suc, eqb, get_or}
use Rattle.definitions.specs.ContractFile.{NodeRecord, data_type_of, operator_of, node}
use Rattle.definitions.specs.Rewriting.{BodyExpression, Circuit, Command, Tree, leaf, one_child, two_children, three_children, setting}

-- Which parts of a node are children.
pub data Form : Type 0 where
  leaf_form one_form two_form three_form setting_form : Form

unfoldable pub form_of : ℕ → Form
form_of kind =
    cond (eqb kind 4 || eqb kind 7 || eqb kind 18 || eqb kind 20) one_form
    (cond (eqb kind 6 || eqb kind 17 || eqb kind 19) two_form (cond (eqb kind 21) three_form (cond (eqb kind 22) setting_form leaf_form)))

-- A node that is not there is of no kind.
abbrev pub record_at : List NodeRecord → ℕ → NodeRecord
record_at nodes n = get_or nodes n (node 0 0 0 0 0)

unfoldable pub tree_of : Form → NodeRecord → (ℕ → Tree) → Tree
tree_of leaf_form r below = leaf r.kind r.arg r.first r.second
tree_of one_form r below = one_child r.kind r.arg (below r.first)
tree_of two_form r below = two_children r.kind r.arg (below r.first) (below r.second)
tree_of three_form r below = three_children r.kind (below r.first) (below r.second) (below r.third)
tree_of setting_form r below = setting r.first (below r.second)

-- A child's number is below its parent's, so n + 1 levels hold the whole tree of node n.
unfoldable pub tree_at : ℕ → List NodeRecord → ℕ → Tree
tree_at zero nodes n = leaf 0 0 0 0
tree_at (suc levels) nodes n = tree_of (form_of (record_at nodes n).kind) (record_at nodes n) (tree_at levels nodes)

abbrev pub tree_in : List NodeRecord → ℕ → Tree
tree_in nodes n = tree_at (suc n) nodes n

abbrev pub FallsBy : ℕ → Form → NodeRecord → Type 0
FallsBy n leaf_form r = Unit {0}
FallsBy n one_form r = r.first < n
FallsBy n two_form r = (r.first < n) × (r.second < n)
FallsBy n three_form r = (r.first < n) × ((r.second < n) × (r.third < n))
FallsBy n setting_form r = r.second < n

abbrev pub Falls : ℕ → NodeRecord → Type 0
Falls n r = FallsBy n (form_of r.kind) r

-- Each child's number is below its parent's.
pub record Falling (nodes : List NodeRecord) : Type 0 where
  pub below : (n : ℕ) → Falls n (record_at nodes n)

-- The same of nodes whose first has number n.
unfoldable pub FallingFrom : ℕ → List NodeRecord → Type 0
FallingFrom n [] = Unit {0}
FallingFrom n (r ∷ rs) = Falls n r × FallingFrom (suc n) rs

unfoldable pub body_of : Tree → BodyExpression
body_of (leaf kind arg first second) =
    cond (eqb kind 1) (BodyExpression.constant (data_type_of arg) (first + 65536 * second))
    (cond (eqb kind 3) (BodyExpression.field arg)
    (cond (eqb kind 5) (BodyExpression.parameter arg) (cond (eqb kind 9) (BodyExpression.variable first) BodyExpression.me)))
body_of (one_child kind arg first) =
    cond (eqb kind 4) (BodyExpression.entry arg (body_of first))
    (cond (eqb kind 7) (BodyExpression.negation (body_of first)) BodyExpression.me)
body_of (two_children kind arg first second) =
    cond (eqb kind 6) (BodyExpression.operator (operator_of arg) (body_of first) (body_of second)) BodyExpression.me
body_of (three_children kind first second third) = BodyExpression.me
body_of (setting variable value) = BodyExpression.me

unfoldable pub circuit_of : Tree → Circuit
circuit_of (leaf kind arg first second) =
    cond (eqb kind 1) (Circuit.constant (data_type_of arg) (first + 65536 * second))
    (cond (eqb kind 9) (Circuit.variable first) (cond (eqb kind 10) (Circuit.opened first) Circuit.me))
circuit_of (one_child kind arg first) = cond (eqb kind 7) (Circuit.negation (circuit_of first)) Circuit.me
circuit_of (two_children kind arg first second) =
    cond (eqb kind 6) (Circuit.operator (operator_of arg) (circuit_of first) (circuit_of second)) Circuit.me
circuit_of (three_children kind first second third) = Circuit.me
circuit_of (setting variable value) = Circuit.me

unfoldable pub command_of : Tree → Command
command_of (leaf kind arg first second) = cond (eqb kind 23) Command.verify Command.skip
command_of (one_child kind arg first) =
    cond (eqb kind 18) (Command.assign_field arg (body_of first)) (cond (eqb kind 20) (Command.require (body_of first)) Command.skip)
command_of (two_children kind arg first second) =
    cond (eqb kind 17) (Command.sequence (command_of first) (command_of second))
    (cond (eqb kind 19) (Command.assign_entry arg (body_of first) (body_of second)) Command.skip)
command_of (three_children kind first second third) = Command.conditional (body_of first) (command_of second) (command_of third)
command_of (setting variable value) = Command.set_variable variable (body_of value)

abbrev pub body_at : ℕ → List NodeRecord → ℕ → BodyExpression
body_at levels nodes n = body_of (tree_at levels nodes n)

abbrev pub circuit_at : ℕ → List NodeRecord → ℕ → Circuit
circuit_at levels nodes n = circuit_of (tree_at levels nodes n)

abbrev pub body_in : List NodeRecord → ℕ → BodyExpression
body_in nodes n = body_of (tree_in nodes n)

abbrev pub circuit_in : List NodeRecord → ℕ → Circuit
circuit_in nodes n = circuit_of (tree_in nodes n)

abbrev pub command_in : List NodeRecord → ℕ → Command
command_in nodes n = command_of (tree_in nodes n)
