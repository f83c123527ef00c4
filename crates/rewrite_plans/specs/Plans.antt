-- What code finds of a node: its owner code where it is supplied or read, and the numbers of its parts.
use Rattle.std.specs.Prelude.{◌≡◌, ◌<◌, ◌≤◌}
use Rattle.kit.specs.Names.{not, List, ℕ, suc, eqb}
use Rattle.definitions.specs.ContractFile.{Expression, Scope, owner_code}
use Rattle.definitions.specs.Owners.{owner_of}
use Rattle.theory_trees.specs.Trees.{expression_in}
use Rattle.file_accepted.specs.Context.{nodes_in}
use Rattle.rewrite_events.specs.Events.{Events, no_events, in_turn}
use Rattle.rewrite_events.specs.Parts.{is_supplied, is_read, supplied_for, each_part}
use Rattle.rewrite_plans.specs.declared.Parts.{Parts}

abbrev pub node_expression : List ℕ → ℕ → Expression
node_expression file n = expression_in (nodes_in file) n

-- 0 where the body keeps an expression; otherwise 1 + the code of the owner that it is supplied for.
pub record SuppliedCode (scope : Scope) (e : Expression) (code : ℕ) : Type 0 where
  pub test : is_supplied scope e ≡ not (eqb code 0)
  pub owner : 0 < code → code ≡ suc (owner_code (supplied_for e))
  pub small : code ≤ 256

-- 0 where a circuit keeps an expression; otherwise 1 + the code of the owner that it is read of.
pub record ReadCode (scope : Scope) (e : Expression) (code : ℕ) : Type 0 where
  pub test : is_read scope e ≡ not (eqb code 0)
  pub owner : 0 < code → code ≡ suc (owner_code (owner_of scope e))
  pub small : code ≤ 256

-- The parts of node n by their numbers: none, one or two.
pub record PartsOf (file : List ℕ) (n : ℕ) (parts : Parts) : Type 0 where
  pub first : 1 ≤ parts.count → parts.first < n
  pub second : 2 ≤ parts.count → parts.second < n
  pub none : parts.count ≡ 0 → (rule : Expression → Events) → each_part rule (node_expression file n) ≡ no_events
  pub one : parts.count ≡ 1 → (rule : Expression → Events)
      → each_part rule (node_expression file n) ≡ rule (node_expression file parts.first)
  pub two : 2 ≤ parts.count → (rule : Expression → Events)
      → each_part rule (node_expression file n)
      ≡ in_turn (rule (node_expression file parts.first)) (rule (node_expression file parts.second))
