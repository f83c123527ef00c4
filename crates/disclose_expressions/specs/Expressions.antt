-- 01, Runs and views: what an expression of a file discloses to a party, where addresses stand at their owner codes.
use Rattle.std.specs.Prelude.{◌≡◌, ◌+◌, ◌<◌, ◌≤◌}
use Rattle.kit.specs.Names.{Bool, List, ℕ, length}
use Rattle.definitions.specs.ContractFile.{Expression, me_name, node_count}
use Rattle.definitions.specs.Original.{value, is_worked_out, disclosed}
use Rattle.theory_trees.specs.Trees.{expression_in}
use Rattle.memory_append.specs.Append.{Appended}
use Rattle.file_accepted.specs.Context.{nodes_in, fields_in}
use Rattle.ledger_circuits.specs.Circuits.{address_from}
use Rattle.disclose_expressions.specs.declared.Asked.{Asked}
use Rattle.disclose_expressions.specs.declared.Told.{Told}

module _ (file arguments addresses numbers : List ℕ) where
  unfoldable pub value_in : Expression → ℕ
  value_in e = value (fields_in file) (address_from addresses) arguments numbers e

  unfoldable pub is_worked_out_in : Expression → Bool
  is_worked_out_in e = is_worked_out (fields_in file) (address_from addresses) arguments numbers e

  unfoldable pub disclosed_in : ℕ → Expression → List ℕ
  disclosed_in party e = disclosed (fields_in file) (address_from addresses) arguments party numbers e

  -- Node n can be worked out, and there is room for what it discloses.
  pub record ExpressionReady (asked : Asked) (n : ℕ) (out : List ℕ) : Type 0 where
    pub inside : n < node_count file
    pub called : address_from addresses me_name ≡ asked.caller
    pub room : asked.at + length (disclosed_in asked.party (expression_in (nodes_in file) n)) ≤ length out

  pub record ExpressionDisclosed (party : ℕ) (e : Expression) (before after : List ℕ) (at : ℕ) (r : Told) : Type 0 where
    pub values : Appended before after at (disclosed_in party e) r.at
    pub end : r.finished ≡ is_worked_out_in e
