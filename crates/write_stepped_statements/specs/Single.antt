-- One statement that holds no other, with the steps before it, as code reads them from a log.
use Rattle.kit.specs.Names.{List, ℕ}
use Rattle.definitions.specs.Rewriting.{steps_before, Tree, command_tree}
use Rattle.theory_trees.specs.Trees.{statement_in}
use Rattle.file_accepted.specs.Context.{nodes_in, scope_in}
use Rattle.write_simple_statements.specs.Statements.{simple}
use Rattle.write_steps.specs.Steps.{steps_in}

abbrev pub single_tree : List ℕ → ℕ → List ℕ → ℕ → ℕ → ℕ → ℕ → Tree
single_tree file function_start log from left n i =
    command_tree (steps_before (steps_in file function_start log from left)
    (simple (scope_in file function_start) (statement_in (nodes_in file) n) i).form)
