-- The trees of a file's statements and branches as they are written, and their events. No tree depends on a guard, nor does the
-- number of events or of their variables.
use Rattle.std.specs.Prelude.{◌+◌}
use Rattle.kit.specs.Names.{Bool, cond, List, map, ℕ}
use Rattle.definitions.specs.ContractFile.{boolean, Expression, Statement, Scope, parameter_records, parameter_of}
use Rattle.definitions.specs.Owners.{owner_of}
use Rattle.definitions.specs.Rewriting.{BodyExpression, Command, always, Step, in_body, private_parameters, openings, rewrite_statement, Tree}
use Rattle.definitions.specs.Rewriting.{leaf, two_children, command_tree}
use Rattle.theory_trees.specs.Trees.{expression_in, statement_in}
use Rattle.file_accepted.specs.Context.{nodes_in, scope_in}
use Rattle.file_accepted.specs.Functions.{root_at}
use Rattle.rewrite_events.specs.Events.{Event, ended, body_events, branch_events, statement_events}

module _ (scope : Scope) where
  abbrev pub command_of : Statement → ℕ → Command
  command_of s i = (rewrite_statement scope s always i).command

  abbrev pub events_of : Statement → ℕ → List Event
  events_of s i = statement_events scope s always i

  -- "Each branch begins by setting a guard variable of its own to true": the guard is variable j.
  abbrev pub branch_command : Statement → ℕ → Command
  branch_command s j = Command.sequence (Command.set_variable j (BodyExpression.constant boolean 1)) (command_of s (j + 1))

  -- The events of a branch, and of a condition.
  abbrev pub branch_of : Statement → ℕ → List Event
  branch_of s j = branch_events (statement_events scope s) j

  abbrev pub condition_of : Expression → ℕ → List Event
  condition_of e i = ended (body_events scope always e) i

-- The same of node n of a file, in the function that begins at a place.
module _ (file : List ℕ) (function_start : ℕ) where
  abbrev pub statement_tree : ℕ → ℕ → Tree
  statement_tree n i = command_tree (command_of (scope_in file function_start) (statement_in (nodes_in file) n) i)

  abbrev pub events_at : ℕ → ℕ → List Event
  events_at n i = events_of (scope_in file function_start) (statement_in (nodes_in file) n) i

  abbrev pub branch_tree : ℕ → ℕ → Tree
  branch_tree n j = command_tree (branch_command (scope_in file function_start) (statement_in (nodes_in file) n) j)

  abbrev pub branch_at : ℕ → ℕ → List Event
  branch_at n j = branch_of (scope_in file function_start) (statement_in (nodes_in file) n) j

  -- The events of a condition, and the steps before it.
  abbrev pub condition_at : ℕ → ℕ → List Event
  condition_at n i = condition_of (scope_in file function_start) (expression_in (nodes_in file) n) i

  abbrev pub condition_steps : ℕ → ℕ → List Step
  condition_steps n i = (in_body (owner_of (scope_in file function_start)) (expression_in (nodes_in file) n) i).steps

-- The reads of the private ones among parameters that stand in a file from a place on, the first of them number k;
-- the first variable is number i.
abbrev pub opening_steps : List ℕ → ℕ → ℕ → ℕ → ℕ → List Step
opening_steps file place left k i = (openings (private_parameters k (map parameter_of (parameter_records left file place))) i).steps

-- A function's root statement, and a verify behind it.
abbrev pub passage_tree : List ℕ → ℕ → ℕ → Bool → Tree
passage_tree file function_start private verified =
    let body = statement_tree file function_start (root_at file function_start) private in
    cond verified (two_children 17 0 body (leaf 23 0 0 0)) body
