-- What rewriting makes of narrow expressions and statements is narrow.
use Rattle.std.specs.Prelude.{◌&&◌, ◌∷◌, ◌++◌, ◌+◌, ◌<◌, ◌≤◌}
use Rattle.kit.specs.Names.{List, [], none, ℕ, suc, arith, length, length-append}
use Rattle.definitions.specs.ContractFile.{DataType, boolean, me_name, Owner, everyone, owned_by, Operator, operator_code, Expression, Statement, Scope, field_at, is_division}
use Rattle.definitions.specs.Owners.{name_of, place_owner, is_public, owner_of}
use Rattle.definitions.specs.Rewriting.{BodyExpression, Circuit, Command, Claim, Guard, under, Constraint, Step, Generator, kept, one_part, two_parts, operator_in_circuit, in_body, in_circuit, in_place, steps_before, held_under, Passage, StatementGenerator, single, in_sequence, in_branch, in_branches, rewrite_statement, body_tree, circuit_tree, command_tree}
use Rattle.write_trees.proofs.Narrowness.{narrow_leaf, narrow_one, narrow_two, narrow_three, narrow_setting}
use Rattle.walk_constraints.specs.Numbers.{HasCode}
use Rattle.walk_narrow_trees.specs.Narrow.{NarrowExpression, NarrowStatement, CodedScope}
use Rattle.walk_narrow_trees.proofs.Pieces as pieces
use Rattle.walk_narrow_trees.proofs.Pieces.{Each, each_append, NarrowBody, NarrowCircuit, NarrowCommand, NarrowStep, NarrowClaim, Narrows, operator_small, constant_narrow, kept_narrow, either_narrow, one_narrow, two_narrow, supply_narrow, reading_narrow}

-- The forms of each kind, in a body and in a circuit.
constant_body : (t : DataType) (v : ℕ) → v < 4294967296 → NarrowBody (BodyExpression.constant t v)
unfolding body_tree
constant_body t v h = constant_narrow t v h

me_body : NarrowBody BodyExpression.me
unfolding body_tree
me_body = narrow_leaf 2 0 0 0 (omega arith) (omega arith) (omega arith) (omega arith)

field_body : (f : ℕ) → f < 256 → NarrowBody (BodyExpression.field f)
unfolding body_tree
field_body f h = narrow_leaf 3 f 0 0 (omega arith) h (omega arith) (omega arith)

entry_body : (f : ℕ) → f < 256 → (key : BodyExpression) → NarrowBody key → NarrowBody (BodyExpression.entry f key)
unfolding body_tree
entry_body f h key k = narrow_one 4 f (body_tree key) (omega arith) h k

pub parameter_body : (k : ℕ) → k < 256 → NarrowBody (BodyExpression.parameter k)
unfolding body_tree
parameter_body k h = narrow_leaf 5 k 0 0 (omega arith) h (omega arith) (omega arith)

operator_body : (o : Operator) (left right : BodyExpression) → NarrowBody left → NarrowBody right → NarrowBody (BodyExpression.operator o left right)
unfolding body_tree
operator_body o left right h k = narrow_two 6 (operator_code o) (body_tree left) (body_tree right) (omega arith) (operator_small o) h k

negation_body : (part : BodyExpression) → NarrowBody part → NarrowBody (BodyExpression.negation part)
unfolding body_tree
negation_body part h = narrow_one 7 0 (body_tree part) (omega arith) (omega arith) h

constant_circuit : (t : DataType) (v : ℕ) → v < 4294967296 → NarrowCircuit (Circuit.constant t v)
unfolding circuit_tree
constant_circuit t v h = constant_narrow t v h

me_circuit : NarrowCircuit Circuit.me
unfolding circuit_tree
me_circuit = narrow_leaf 2 0 0 0 (omega arith) (omega arith) (omega arith) (omega arith)

operator_circuit : (o : Operator) (left right : Circuit) → NarrowCircuit left → NarrowCircuit right → NarrowCircuit (Circuit.operator o left right)
unfolding circuit_tree
operator_circuit o left right h k = narrow_two 6 (operator_code o) (circuit_tree left) (circuit_tree right) (omega arith) (operator_small o) h k

negation_circuit : (part : Circuit) → NarrowCircuit part → NarrowCircuit (Circuit.negation part)
unfolding circuit_tree
negation_circuit part h = narrow_one 7 0 (circuit_tree part) (omega arith) (omega arith) h

module _ (scope : Scope) where
  module _ (o : Operator) (left right : Expression) (left_body : Narrows NarrowBody (in_body (owner_of scope) left)) (right_body : Narrows NarrowBody (in_body (owner_of scope) right))
      (left_circuit : Narrows NarrowCircuit (in_circuit (owner_of scope) left)) (right_circuit : Narrows NarrowCircuit (in_circuit (owner_of scope) right)) where
    both_bodies : Narrows NarrowBody (two_parts (BodyExpression.operator o) (in_body (owner_of scope) left) (in_body (owner_of scope) right))
    both_bodies = two_narrow NarrowBody NarrowBody NarrowBody (BodyExpression.operator o) (in_body (owner_of scope) left) (in_body (owner_of scope) right) (operator_body o) left_body right_body

    operator_in_circuit_law : Narrows NarrowCircuit (operator_in_circuit (owner_of scope) o left right (in_body (owner_of scope) left) (in_body (owner_of scope) right) (in_circuit (owner_of scope) left) (in_circuit (owner_of scope) right))
    operator_in_circuit_law =
        either_narrow NarrowCircuit (is_public scope (Expression.operator o left right) && is_division o) _ _
        (reading_narrow everyone (Expression.operator o left right) (two_parts (BodyExpression.operator o) (in_body (owner_of scope) left) (in_body (owner_of scope) right)) both_bodies)
        (two_narrow NarrowCircuit NarrowCircuit NarrowCircuit (Circuit.operator o) (in_circuit (owner_of scope) left) (in_circuit (owner_of scope) right) (operator_circuit o) left_circuit right_circuit)

    operator_in_body : Narrows NarrowBody (in_body (owner_of scope) (Expression.operator o left right))
    unfolding in_body
    operator_in_body =
        either_narrow NarrowBody (is_public scope (Expression.operator o left right)) _ _ both_bodies
        (supply_narrow (owned_by me_name) (Expression.operator o left right) _ tt operator_in_circuit_law)

  negation_in_circuit : (part : Expression) → Narrows NarrowCircuit (in_circuit (owner_of scope) part) → Narrows NarrowCircuit (one_part Circuit.negation (in_circuit (owner_of scope) part))
  negation_in_circuit part h = one_narrow NarrowCircuit NarrowCircuit Circuit.negation (in_circuit (owner_of scope) part) negation_circuit h

  negation_in_body : (part : Expression) → Narrows NarrowBody (in_body (owner_of scope) part) → Narrows NarrowCircuit (in_circuit (owner_of scope) part)
      → Narrows NarrowBody (in_body (owner_of scope) (Expression.negation part))
  unfolding in_body
  negation_in_body part h k =
      either_narrow NarrowBody (is_public scope (Expression.negation part)) _ _
      (one_narrow NarrowBody NarrowBody BodyExpression.negation (in_body (owner_of scope) part) negation_body h)
      (supply_narrow (owned_by me_name) (Expression.negation part) _ tt (negation_in_circuit part k))

  entry_in_body : (f : ℕ) (key : Expression) → f < 256 → Narrows NarrowBody (in_body (owner_of scope) key) → Narrows NarrowBody (one_part (BodyExpression.entry f) (in_body (owner_of scope) key))
  entry_in_body f key h k = one_narrow NarrowBody NarrowBody (BodyExpression.entry f) (in_body (owner_of scope) key) (entry_body f h) k

  mutual
    unfolding in_body in_circuit NarrowExpression

    pub body_narrow : (e : Expression) → NarrowExpression e → Narrows NarrowBody (in_body (owner_of scope) e)
    body_narrow (Expression.constant t v) h = kept_narrow NarrowBody (BodyExpression.constant t v) (constant_body t v h)
    body_narrow Expression.me h = kept_narrow NarrowBody BodyExpression.me me_body
    body_narrow (Expression.field f) h = kept_narrow NarrowBody (BodyExpression.field f) (field_body f h)
    body_narrow (Expression.entry f key) h = entry_in_body f key h.0 (body_narrow key h.1)
    body_narrow (Expression.parameter k) h = kept_narrow NarrowBody (BodyExpression.parameter k) (parameter_body k h)
    body_narrow (Expression.operator o left right) h =
        operator_in_body o left right (body_narrow left h.0) (body_narrow right h.1) (circuit_narrow left h.0) (circuit_narrow right h.1)
    body_narrow (Expression.negation part) h = negation_in_body part (body_narrow part h) (circuit_narrow part h)
    body_narrow (Expression.reveal part o) h = supply_narrow o (Expression.reveal part o) (in_circuit (owner_of scope) part) h.1 (circuit_narrow part h.0)

    pub circuit_narrow : (e : Expression) → NarrowExpression e → Narrows NarrowCircuit (in_circuit (owner_of scope) e)
    circuit_narrow (Expression.constant t v) h = kept_narrow NarrowCircuit (Circuit.constant t v) (constant_circuit t v h)
    circuit_narrow Expression.me h = kept_narrow NarrowCircuit Circuit.me me_circuit
    circuit_narrow (Expression.field f) h = reading_narrow _ (Expression.field f) _ (kept_narrow NarrowBody (BodyExpression.field f) (field_body f h))
    circuit_narrow (Expression.entry f key) h = reading_narrow _ (Expression.entry f key) _ (entry_in_body f key h.0 (body_narrow key h.1))
    circuit_narrow (Expression.parameter k) h = reading_narrow _ (Expression.parameter k) _ (kept_narrow NarrowBody (BodyExpression.parameter k) (parameter_body k h))
    circuit_narrow (Expression.operator o left right) h =
        operator_in_circuit_law o left right (body_narrow left h.0) (body_narrow right h.1) (circuit_narrow left h.0) (circuit_narrow right h.1)
    circuit_narrow (Expression.negation part) h = negation_in_circuit part (circuit_narrow part h)
    circuit_narrow (Expression.reveal part o) h = circuit_narrow part h.0

  place_narrow : (o : Owner) (e : Expression) → HasCode o → NarrowExpression e → Narrows NarrowBody (in_place (owner_of scope) o e)
  place_narrow everyone e code h = body_narrow e h
  place_narrow (owned_by n) e code h =
      either_narrow NarrowBody (is_public scope e) _ _ (supply_narrow (owned_by n) e (in_circuit (owner_of scope) e) code (circuit_narrow e h)) (body_narrow e h)

-- Commands.
skip_command : NarrowCommand Command.skip
unfolding command_tree
skip_command = narrow_leaf 16 0 0 0 (omega arith) (omega arith) (omega arith) (omega arith)

sequence_command : (first second : Command) → NarrowCommand first → NarrowCommand second → NarrowCommand (Command.sequence first second)
unfolding command_tree
sequence_command first second h k = narrow_two 17 0 (command_tree first) (command_tree second) (omega arith) (omega arith) h k

field_command : (f : ℕ) → f < 256 → (value : BodyExpression) → NarrowBody value → NarrowCommand (Command.assign_field f value)
unfolding command_tree
field_command f h value k = narrow_one 18 f (body_tree value) (omega arith) h k

entry_command : (f : ℕ) → f < 256 → (key value : BodyExpression) → NarrowBody key → NarrowBody value → NarrowCommand (Command.assign_entry f key value)
unfolding command_tree
entry_command f h key value k l = narrow_two 19 f (body_tree key) (body_tree value) (omega arith) h k l

require_command : (condition : BodyExpression) → NarrowBody condition → NarrowCommand (Command.require condition)
unfolding command_tree
require_command condition h = narrow_one 20 0 (body_tree condition) (omega arith) (omega arith) h

conditional_command : (condition : BodyExpression) (then else : Command) → NarrowBody condition → NarrowCommand then → NarrowCommand else
    → NarrowCommand (Command.conditional condition then else)
unfolding command_tree
conditional_command condition then else h k l = narrow_three 21 (body_tree condition) (command_tree then) (command_tree else) (omega arith) h k l

set_command : (i : ℕ) (value : BodyExpression) → i < 65536 → NarrowBody value → NarrowCommand (Command.set_variable i value)
unfolding command_tree
set_command i value h k = narrow_setting i (body_tree value) h k

verify_command : NarrowCommand Command.verify
unfolding command_tree
verify_command = narrow_leaf 23 0 0 0 (omega arith) (omega arith) (omega arith) (omega arith)

pub steps_command : (steps : List Step) (rest : Command) → Each NarrowStep steps → NarrowCommand rest → NarrowCommand (steps_before steps rest)
unfolding steps_before
steps_command [] rest h k = k
steps_command (s ∷ steps) rest (pieces.more _ _ n h) k =
    sequence_command _ _ (set_command s.variable s.value n.0 n.1) (steps_command steps rest h k)

abbrev pub NarrowConstraint : Constraint → Type 0
NarrowConstraint c = NarrowClaim c.claim

pub held_narrow : (g : Guard) (claims : List Claim) → Each NarrowClaim claims → Each NarrowConstraint (held_under g claims)
held_narrow g [] h = pieces.none
held_narrow g (c ∷ claims) (pieces.more _ _ n h) = pieces.more _ _ n (held_narrow g claims h)

pub record NarrowPassage (passage : Passage) : Type 0 where
  pub command : NarrowCommand passage.command
  pub constraints : Each NarrowConstraint passage.constraints

pub record Passes (m : StatementGenerator) : Type 0 where
  pub from : (g : Guard) (i : ℕ) → i + length (m g i).variables ≤ 65536 → NarrowPassage (m g i)

single_narrow : (m : Generator Command) → Narrows NarrowCommand m → Passes (single m)
unfolding single
single_narrow m h =
    record {
      from = λ g i few.
          let p = h.from i few in
          record { command = steps_command (m i).steps (m i).form p.steps p.form; constraints = held_narrow g (m i).claims p.claims };
    }

sequence_narrow : (first second : StatementGenerator) → Passes first → Passes second → Passes (in_sequence first second)
unfolding in_sequence
sequence_narrow first second h k =
    record {
      from = λ g i few.
          let a = first g i in
          let j = i + length a.variables in
          let b = second g j in
          let both = length-append a.variables b.variables in
          let p = h.from g i (omega arith) in
          let q = k.from g j (omega arith) in
          record {
            command = sequence_command a.command b.command p.command q.command;
            constraints = each_append NarrowConstraint a.constraints b.constraints p.constraints q.constraints;
          };
    }

branch_narrow : (inside : StatementGenerator) → Passes inside → (i : ℕ) → i + length (in_branch inside i).variables ≤ 65536 → NarrowPassage (in_branch inside i)
unfolding in_branch
branch_narrow inside h i few =
    let p = h.from (under i) (suc i) (omega arith) in
    record {
      command = sequence_command _ _ (set_command i (BodyExpression.constant boolean 1) (omega arith) (constant_body boolean 1 (omega arith))) p.command;
      constraints = p.constraints;
    }

branches_narrow : (condition : Generator BodyExpression) (then else : StatementGenerator) → Narrows NarrowBody condition → Passes then → Passes else
    → Passes (in_branches condition then else)
unfolding in_branches
branches_narrow condition then else h k l =
    record {
      from = λ g i few.
          let c = condition i in
          let j = i + length c.variables in
          let a = in_branch then j in
          let m = j + length a.variables in
          let b = in_branch else m in
          let whole = length-append c.variables (a.variables ++ b.variables) in
          let both = length-append a.variables b.variables in
          let p = h.from i (omega arith) in
          let q = branch_narrow then k j (omega arith) in
          let r = branch_narrow else l m (omega arith) in
          record {
            command = steps_command c.steps _ p.steps (conditional_command c.form a.command b.command p.form q.command r.command);
            constraints =
                each_append NarrowConstraint (held_under g c.claims) (a.constraints ++ b.constraints) (held_narrow g c.claims p.claims)
                (each_append NarrowConstraint a.constraints b.constraints q.constraints r.constraints);
          };
    }

module _ (scope : Scope) (coded : CodedScope scope) where
  pub statement_narrow : (s : Statement) → NarrowStatement s → Passes (rewrite_statement scope s)
  unfolding rewrite_statement NarrowStatement
  statement_narrow Statement.skip h = single_narrow (kept Command.skip) (kept_narrow NarrowCommand Command.skip skip_command)
  statement_narrow (Statement.sequence first second) h = sequence_narrow _ _ (statement_narrow first h.0) (statement_narrow second h.1)
  statement_narrow (Statement.assign_field f value) h =
      single_narrow _
      (one_narrow NarrowBody NarrowCommand (Command.assign_field f) _ (field_command f h.0) (place_narrow scope (place_owner (field_at scope.fields f).owner none) value (coded.field f) h.1))
  statement_narrow (Statement.assign_entry f key value) h =
      single_narrow _
      (two_narrow NarrowBody NarrowBody NarrowCommand (Command.assign_entry f) (in_body (owner_of scope) key) _ (entry_command f h.0) (body_narrow scope key h.1.0)
      (place_narrow scope (place_owner (field_at scope.fields f).owner (name_of scope key)) value (coded.entry f key) h.1.1))
  statement_narrow (Statement.require condition) h =
      single_narrow _ (one_narrow NarrowBody NarrowCommand Command.require (in_body (owner_of scope) condition) require_command (body_narrow scope condition h))
  statement_narrow (Statement.conditional condition then else) h =
      branches_narrow _ _ _ (body_narrow scope condition h.0) (statement_narrow then h.1.0) (statement_narrow else h.1.1)

-- A verify at the end.
pub verified_command : (body : Command) → NarrowCommand body → NarrowCommand (Command.sequence body Command.verify)
verified_command body h = sequence_command body Command.verify h verify_command
