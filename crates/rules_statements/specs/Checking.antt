-- What is found of a condition and of a statement, and what judging it leaves in the classes and in the column of owners.
use Rattle.std.specs.Prelude.{◌≡◌}
use Rattle.kit.specs.Names.{List, ℕ}
use Rattle.definitions.specs.ContractFile.{Node, Statement, Scope}
use Rattle.definitions.specs.Owners.{links_of_condition, links_after}
use Rattle.definitions.specs.Numbers.{condition_faults, statement_faults}
use Rattle.theory_trees.specs.Trees.{expression_in, statement_in}
use Rattle.rules_faults.specs.Faults.{least_fault}
use Rattle.rules_links.specs.Classes.{linked_by, Learnt}
use Rattle.rules_marks.specs.Marks.{marked, owner_at, expressions_under, statements_under}
use Rattle.rules_branches.specs.declared.Checked.{Checked}

pub record JudgedCondition (scope : Scope) (nodes : List Node) (n : ℕ) (classes classes' owners owners' : List ℕ)
    (r : Checked) : Type 0 where
  pub fault : least_fault (condition_faults scope (linked_by classes) (expression_in nodes n)) ≡ r.fault
  pub learnt : Learnt classes classes' r.added
      (links_of_condition scope (expression_in nodes n) (linked_by classes))
  pub column : owners' ≡ marked (owner_at scope nodes) (expressions_under nodes n) owners

pub record CheckedAs (scope : Scope) (before after : List ℕ) (s : Statement) (r : Checked) : Type 0 where
  pub fault : least_fault (statement_faults scope (linked_by before) s) ≡ r.fault
  pub learnt : Learnt before after r.added (links_after scope s (linked_by before))

pub record JudgedStatement (scope : Scope) (nodes : List Node) (n : ℕ) (classes classes' owners owners' : List ℕ)
    (r : Checked) : Type 0 where
  pub checked : CheckedAs scope classes classes' (statement_in nodes n) r
  pub column : owners' ≡ marked (owner_at scope nodes) (statements_under nodes n) owners
