-- What judging an expression's node answers, and leaves in the column of owners.
use Rattle.std.specs.Prelude.{◌≡◌}
use Rattle.kit.specs.Names.{List, ℕ, length}
use Rattle.definitions.specs.ContractFile.{Node, Scope}
use Rattle.theory_trees.specs.Trees.{expression_in}
use Rattle.rules_links.specs.Classes.{linked_by}
use Rattle.rules_marks.specs.Marks.{marked, owner_at, expressions_under}
use Rattle.rules_judgements.specs.Judging.{JudgedAs}
use Rattle.rules_judgements.specs.declared.Judged.{Judged}

pub record MarkedAs (scope : Scope) (nodes : List Node) (classes : List ℕ) (n : ℕ) (before after : List ℕ) (r : Judged) : Type 0 where
  pub judged : JudgedAs scope (linked_by classes) (length classes) (expression_in nodes n) r
  pub column : after ≡ marked (owner_at scope nodes) (expressions_under nodes n) before
