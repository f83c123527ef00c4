-- The events of a file's condition, and those of a statement that holds no other but for their end.
use Rattle.kit.specs.Names.{List, ℕ}
use Rattle.theory_trees.specs.Trees.{statement_in}
use Rattle.file_accepted.specs.Context.{nodes_in, scope_in}
use Rattle.rewrite_events.specs.Events.{Events, ended}
use Rattle.rewrite_events.specs.Ends.{simple_events}
use Rattle.rewrite_log.specs.Entries.{guard_of}
use Rattle.rewrite_expressions.specs.Translations.{body_of}

module _ (file : List ℕ) (function_start guard n : ℕ) where
  abbrev pub condition_of : Events
  condition_of = ended (body_of file function_start guard n)

  abbrev pub simple_of : Events
  simple_of = simple_events (scope_in file function_start) (statement_in (nodes_in file) n) (guard_of guard)
