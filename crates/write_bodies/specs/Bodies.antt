-- What the functions that write a body's statements need and owe. They read a log of events that holds those of the statement from a
-- position on, and hand back the position behind them.
use Rattle.std.specs.Prelude.{◌≡◌, ◌++◌, ◌+◌, ◌*◌, ◌<◌, ◌≤◌}
use Rattle.kit.specs.Names.{Bool, List, ℕ, ltb, length}
use Rattle.definitions.specs.ContractFile.{NodeRecord, node_count}
use Rattle.definitions.specs.Owners.{owner_of}
use Rattle.definitions.specs.Rewriting.{Command, Guard, in_body, steps_before, Tree, three_children, command_tree}
use Rattle.theory_trees.specs.Trees.{expression_in, statement_in}
use Rattle.file_accepted.specs.Context.{nodes_in, scope_in}
use Rattle.file_accepted.specs.Functions.{root_at}
use Rattle.rewrite_events.specs.Events.{Event, variable_count, steps_of, ended, body_events, statement_events}
use Rattle.rewrite_log.specs.declared.Position.{Position}
use Rattle.write_nodes.specs.Numbering.{Room, Numbered}
use Rattle.write_reads.specs.Forms.{body_form}
use Rattle.write_steps.specs.Steps.{StepsPut}
use Rattle.write_logged_steps.specs.Held.{HoldsEvents}
use Rattle.write_function_room.specs.Functions.{written_in, private_in, events_in}
use Rattle.write_bodies.specs.declared.Extent.{Extent}
use Rattle.write_bodies.specs.declared.Condition.{Condition}
use Rattle.write_bodies.specs.Parts.{statement_tree, events_at, branch_tree, branch_at, condition_at, condition_steps, passage_tree}

-- A position is the one behind events.
pub record Behind (p : Position) (events : List Event) (q : Position) : Type 0 where
  pub place : q.at ≡ p.at + 5 * length events
  pub variable : q.variable ≡ p.variable + variable_count events

-- A statement: node n, whose events stand from a position on.
pub record StatementReady (file : List ℕ) (function_start : ℕ) (n : ℕ) (log : List ℕ) (p : Position) (roots out : List ℕ)
    (at base : ℕ) : Type 0 where
  pub inside : n < node_count file
  pub guard : Guard
  pub logged : HoldsEvents (nodes_in file) log p.at
      (statement_events (scope_in file function_start) (statement_in (nodes_in file) n) guard p.variable)
  pub steps : length (steps_of (scope_in file function_start)
      (statement_events (scope_in file function_start) (statement_in (nodes_in file) n) guard p.variable)) ≤ length roots
  pub few : p.variable + variable_count (events_at file function_start n p.variable) < 65535
  pub room : Room out at base (statement_tree file function_start n p.variable)

pub record StatementWritten (file : List ℕ) (function_start n : ℕ) (p : Position) (out after : List ℕ) (at base : ℕ) (r : Extent) : Type 0 where
  pub written : Numbered out after at base (statement_tree file function_start n p.variable) r.nodes
  pub next : Behind p (events_at file function_start n p.variable) r.next

-- A branch: node n behind its guard, which is the first variable.
pub record BranchReady (file : List ℕ) (function_start : ℕ) (n : ℕ) (log : List ℕ) (p : Position) (roots out : List ℕ)
    (at base : ℕ) : Type 0 where
  pub inside : n < node_count file
  pub logged : HoldsEvents (nodes_in file) log p.at (branch_at file function_start n p.variable)
  pub steps : length (steps_of (scope_in file function_start) (branch_at file function_start n p.variable)) ≤ length roots
  pub few : p.variable + variable_count (branch_at file function_start n p.variable) < 65535
  pub room : Room out at base (branch_tree file function_start n p.variable)

pub record BranchWritten (file : List ℕ) (function_start n : ℕ) (p : Position) (out after : List ℕ) (at base : ℕ) (r : Extent) : Type 0 where
  pub written : Numbered out after at base (branch_tree file function_start n p.variable) r.nodes
  pub next : Behind p (branch_at file function_start n p.variable) r.next

-- A condition's steps and its form, where a conditional follows.
pub record ConditionReady (file : List ℕ) (function_start : ℕ) (n : ℕ) (log : List ℕ) (p : Position) (roots out : List ℕ)
    (at base : ℕ) : Type 0 where
  pub inside : n < node_count file
  pub guard : Guard
  pub logged : HoldsEvents (nodes_in file) log p.at
      (ended (body_events (scope_in file function_start) guard (expression_in (nodes_in file) n)) p.variable)
  pub few : p.variable + variable_count (condition_at file function_start n p.variable) < 65535
  pub enough : length (condition_steps file function_start n p.variable) ≤ length roots
  pub then : Command
  pub else : Command
  pub room : Room out at base (command_tree (steps_before (condition_steps file function_start n p.variable)
      (Command.conditional (in_body (owner_of (scope_in file function_start)) (expression_in (nodes_in file) n) p.variable).form then else)))

pub record ConditionWritten (file : List ℕ) (function_start n : ℕ) (p : Position) (roots roots_after out after : List ℕ) (at base : ℕ)
    (r : Condition) : Type 0 where
  pub between : List ℕ
  pub put : StepsPut out between roots roots_after at base 0 (condition_steps file function_start n p.variable)
      (record { count = r.count; nodes = r.nodes })
  pub written : Numbered between after (at + 8 * r.nodes) (base + r.nodes)
      (body_form (scope_in file function_start) (expression_in (nodes_in file) n) p.variable) r.form
  pub next : Behind p (condition_at file function_start n p.variable) r.next

-- The two branches of a conditional, whose node is a record, behind a condition of so many nodes; the first guard is variable j.
module _ (file : List ℕ) (function_start : ℕ) (own : NodeRecord) (j : ℕ) where
  abbrev pub else_guard : ℕ
  else_guard = j + variable_count (branch_at file function_start own.second j)

  abbrev pub branches_at : List Event
  branches_at = branch_at file function_start own.second j ++ branch_at file function_start own.third else_guard

  abbrev pub branches_tree : Tree → Tree
  branches_tree condition =
      three_children 21 condition (branch_tree file function_start own.second j)
      (branch_tree file function_start own.third else_guard)

pub record BranchesReady (file : List ℕ) (function_start : ℕ) (n : ℕ) (own : NodeRecord) (form : ℕ) (log : List ℕ)
    (p : Position) (roots out : List ℕ) (at base : ℕ) : Type 0 where
  pub inside : n < node_count file
  pub kind : own.kind ≡ 21
  pub logged : HoldsEvents (nodes_in file) log p.at (branches_at file function_start own p.variable)
  pub steps : length (steps_of (scope_in file function_start) (branches_at file function_start own p.variable)) ≤ length roots
  pub few : p.variable + variable_count (branches_at file function_start own p.variable) < 65535
  pub held : List ℕ
  pub condition : Tree
  pub room : Room held at base (branches_tree file function_start own p.variable condition)
  pub written : Numbered held out at base condition form

pub record BranchesWritten (file : List ℕ) (function_start : ℕ) (own : NodeRecord) (form : ℕ) (p : Position) (out after : List ℕ)
    (at base : ℕ) (r : Extent) : Type 0 where
  pub for : (held : List ℕ) (condition : Tree) → Room held at base (branches_tree file function_start own p.variable condition)
      → Numbered held out at base condition form
      → Numbered held after at base (branches_tree file function_start own p.variable condition) r.nodes
  pub next : Behind p (branches_at file function_start own p.variable) r.next

-- A function's root statement and its verify.
pub record PassageReady (file : List ℕ) (function_start : ℕ) (private : ℕ) (verified : Bool) (log roots out : List ℕ)
    (at base : ℕ) : Type 0 where
  pub root : root_at file function_start < node_count file
  pub logged : HoldsEvents (nodes_in file) log 0 (events_at file function_start (root_at file function_start) private)
  pub steps : length (steps_of (scope_in file function_start) (events_at file function_start (root_at file function_start) private)) ≤ length roots
  pub few : private + variable_count (events_at file function_start (root_at file function_start) private) < 65535
  pub room : Room out at base (passage_tree file function_start private verified)

-- A function's whole body.
pub record BodyReady (file : List ℕ) (function_start : ℕ) (private : ℕ) (verified : Bool) (log roots out : List ℕ)
    (at base : ℕ) : Type 0 where
  pub root : root_at file function_start < node_count file
  pub private_is : private ≡ private_in file function_start
  pub verifies : verified ≡ ltb 0 (length (written_in file function_start).constraints)
  pub logged : HoldsEvents (nodes_in file) log 0 (events_in file function_start)
  pub steps : length (steps_of (scope_in file function_start) (events_in file function_start)) + 8 ≤ length roots
  pub few : private_in file function_start + variable_count (events_in file function_start) < 65535
  pub room : Room out at base (command_tree (written_in file function_start).body)
