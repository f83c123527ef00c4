-- The written trees of bodies, circuits and commands have the forms of their kinds, and say what they were written for.
use Rattle.std.specs.Prelude.{◌≡◌, ◌∷◌, ◌++◌, ◌+◌, ◌*◌, ◌-◌, ◌/◌, ◌%◌, ◌≤◌}
use Rattle.kit.specs.Names.{refl, ap, ap₂, ◌∙◌, List, [], ℕ, suc, arith, length}
use Rattle.definitions.specs.Basics.{flat_map}
use Rattle.definitions.specs.ContractFile.{DataType, boolean, uint, address, Operator, plus, minus, times, divide, remainder, less, less_or_equal, equal, unequal, conjunction, disjunction, operator_code, data_type_code, NodeRecord, data_type_of, operator_of}
use Rattle.definitions.specs.Rewriting.{BodyExpression, Circuit, Command, Claim, equals, opens_for_caller, Constraint, WrittenFunction, size, numbered, body_tree, circuit_tree, command_tree, claim_trees, function_trees}
use Rattle.write_trees.specs.Trees.{form_of, body_of, circuit_of, command_of, body_at, circuit_at, circuit_in}
use Rattle.write_trees.proofs.Numbering.{Shaped, leaf_shaped, one_shaped, two_shaped, three_shaped, setting_shaped, size_positive, reads_back}
use Rattle.write_trees.proofs.Falls.{AllShaped, none, more, shaped_append}

pub body_shaped : (e : BodyExpression) → Shaped (body_tree e)
unfolding body_tree form_of
body_shaped (BodyExpression.constant t v) = leaf_shaped _ _ _ _ refl
body_shaped BodyExpression.me = leaf_shaped _ _ _ _ refl
body_shaped (BodyExpression.field f) = leaf_shaped _ _ _ _ refl
body_shaped (BodyExpression.entry f key) = one_shaped _ _ _ refl (body_shaped key)
body_shaped (BodyExpression.parameter k) = leaf_shaped _ _ _ _ refl
body_shaped (BodyExpression.operator o left right) = two_shaped _ _ _ _ refl (body_shaped left) (body_shaped right)
body_shaped (BodyExpression.negation part) = one_shaped _ _ _ refl (body_shaped part)
body_shaped (BodyExpression.variable i) = leaf_shaped _ _ _ _ refl

pub circuit_shaped : (e : Circuit) → Shaped (circuit_tree e)
unfolding circuit_tree form_of
circuit_shaped (Circuit.constant t v) = leaf_shaped _ _ _ _ refl
circuit_shaped Circuit.me = leaf_shaped _ _ _ _ refl
circuit_shaped (Circuit.operator o left right) = two_shaped _ _ _ _ refl (circuit_shaped left) (circuit_shaped right)
circuit_shaped (Circuit.negation part) = one_shaped _ _ _ refl (circuit_shaped part)
circuit_shaped (Circuit.variable i) = leaf_shaped _ _ _ _ refl
circuit_shaped (Circuit.opened i) = leaf_shaped _ _ _ _ refl

pub command_shaped : (c : Command) → Shaped (command_tree c)
unfolding command_tree form_of
command_shaped Command.skip = leaf_shaped _ _ _ _ refl
command_shaped (Command.sequence first second) = two_shaped _ _ _ _ refl (command_shaped first) (command_shaped second)
command_shaped (Command.assign_field f value) = one_shaped _ _ _ refl (body_shaped value)
command_shaped (Command.assign_entry f key value) = two_shaped _ _ _ _ refl (body_shaped key) (body_shaped value)
command_shaped (Command.require condition) = one_shaped _ _ _ refl (body_shaped condition)
command_shaped (Command.conditional condition then else) = three_shaped _ _ _ _ refl (body_shaped condition) (command_shaped then) (command_shaped else)
command_shaped (Command.set_variable i value) = setting_shaped _ _ (body_shaped value)
command_shaped Command.verify = leaf_shaped _ _ _ _ refl

type_back : (t : DataType) → data_type_of (data_type_code t) ≡ t
type_back boolean = refl
type_back uint = refl
type_back address = refl

operator_back : (o : Operator) → operator_of (operator_code o) ≡ o
operator_back plus = refl
operator_back minus = refl
operator_back times = refl
operator_back divide = refl
operator_back remainder = refl
operator_back less = refl
operator_back less_or_equal = refl
operator_back equal = refl
operator_back unequal = refl
operator_back conjunction = refl
operator_back disjunction = refl

number_back : (v : ℕ) → v % 65536 + 65536 * (v / 65536) ≡ v
number_back v = omega arith

pub body_said : (e : BodyExpression) → body_of (body_tree e) ≡ e
unfolding body_tree body_of
body_said (BodyExpression.constant t v) = ap₂ BodyExpression.constant (type_back t) (number_back v)
body_said BodyExpression.me = refl
body_said (BodyExpression.field f) = refl
body_said (BodyExpression.entry f key) = ap (BodyExpression.entry f) (body_said key)
body_said (BodyExpression.parameter k) = refl
body_said (BodyExpression.operator o left right) = λ i. BodyExpression.operator (operator_back o i) (body_said left i) (body_said right i)
body_said (BodyExpression.negation part) = ap BodyExpression.negation (body_said part)
body_said (BodyExpression.variable i) = refl

pub circuit_said : (e : Circuit) → circuit_of (circuit_tree e) ≡ e
unfolding circuit_tree circuit_of
circuit_said (Circuit.constant t v) = ap₂ Circuit.constant (type_back t) (number_back v)
circuit_said Circuit.me = refl
circuit_said (Circuit.operator o left right) = λ i. Circuit.operator (operator_back o i) (circuit_said left i) (circuit_said right i)
circuit_said (Circuit.negation part) = ap Circuit.negation (circuit_said part)
circuit_said (Circuit.variable i) = refl
circuit_said (Circuit.opened i) = refl

pub command_said : (c : Command) → command_of (command_tree c) ≡ c
unfolding command_tree command_of
command_said Command.skip = refl
command_said (Command.sequence first second) = ap₂ Command.sequence (command_said first) (command_said second)
command_said (Command.assign_field f value) = ap (Command.assign_field f) (body_said value)
command_said (Command.assign_entry f key value) = ap₂ (Command.assign_entry f) (body_said key) (body_said value)
command_said (Command.require condition) = ap Command.require (body_said condition)
command_said (Command.conditional condition then else) = λ i. Command.conditional (body_said condition i) (command_said then i) (command_said else i)
command_said (Command.set_variable i value) = ap (Command.set_variable i) (body_said value)
command_said Command.verify = refl

-- The nodes of a tree, behind others whose count is the first node's number, read back at their root as what was written.
module _ (levels : ℕ) (before after : List NodeRecord) where
  pub body_back : (e : BodyExpression) → size (body_tree e) ≤ levels
      → body_at levels (before ++ (numbered (length before) (body_tree e) ++ after)) (length before + size (body_tree e) - 1) ≡ e
  body_back e h = ap body_of (reads_back (body_tree e) (body_shaped e) levels _ before after _ refl refl h) ∙ body_said e

  pub circuit_back : (e : Circuit) → size (circuit_tree e) ≤ levels
      → circuit_at levels (before ++ (numbered (length before) (circuit_tree e) ++ after)) (length before + size (circuit_tree e) - 1) ≡ e
  circuit_back e h = ap circuit_of (reads_back (circuit_tree e) (circuit_shaped e) levels _ before after _ refl refl h) ∙ circuit_said e

-- With just the levels that a node's number gives.
module _ (before after : List NodeRecord) where
  pub circuit_is_back : (e : Circuit) → circuit_in (before ++ (numbered (length before) (circuit_tree e) ++ after)) (length before + size (circuit_tree e) - 1) ≡ e
  circuit_is_back e = let p = size_positive (circuit_tree e) in circuit_back (suc (length before + size (circuit_tree e) - 1)) before after e (omega arith)

-- All nodes of a written contract.
claims_shaped : (constraints : List Constraint) → AllShaped (flat_map (λ c. claim_trees c.claim) constraints)
unfolding flat_map
claims_shaped [] = none
claims_shaped (c ∷ cs) = shaped_append _ _ (claim_shaped c.claim) (claims_shaped cs)
  where
    claim_shaped : (claim : Claim) → AllShaped (claim_trees claim)
    claim_shaped (equals i o circuit) = more _ _ (circuit_shaped circuit) none
    claim_shaped (opens_for_caller i) = none

pub functions_shaped : (gs : List WrittenFunction) → AllShaped (flat_map function_trees gs)
unfolding flat_map
functions_shaped [] = none
functions_shaped (g ∷ gs) =
    shaped_append _ _ (shaped_append _ _ (claims_shaped g.constraints) (more _ _ (command_shaped g.body) none)) (functions_shaped gs)
