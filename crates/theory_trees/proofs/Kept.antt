-- What every node keeps of its children's trees holds of every tree that nodes make.
use Rattle.kit.specs.Names.{List, ℕ, zero, suc}
use Rattle.definitions.specs.ContractFile.{Expression, Statement, Node, unknown_node, node_at, expression_of, expression_at, statement_of, statement_at}
use Rattle.theory_trees.specs.Trees.{Keeps}

module _ (P : Expression → Type 0) (Q : Statement → Type 0) (leaf : P Expression.me) (nothing : Q Statement.skip) where
  pub unknown_keeps : Keeps P Q unknown_node
  unfolding expression_of statement_of
  unknown_keeps below part = (leaf, λ later each. nothing)

  module _ (nodes : List Node) (keeps : (n : ℕ) → Keeps P Q (node_at nodes n)) where
    pub expression_kept : (levels n : ℕ) → P (expression_at levels nodes n)
    unfolding expression_at
    expression_kept zero n = leaf
    expression_kept (suc levels) n = (keeps n (expression_at levels nodes) (expression_kept levels)).0

    pub statement_kept : (levels n : ℕ) → Q (statement_at levels nodes n)
    unfolding statement_at
    statement_kept zero n = nothing
    statement_kept (suc levels) n = (keeps n (expression_at levels nodes) (expression_kept levels)).1 (statement_at levels nodes) (statement_kept levels)
