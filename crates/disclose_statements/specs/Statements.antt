-- 01, Runs and views: what a statement of a file discloses to a party, where addresses stand at their owner codes.
use Rattle.std.specs.Prelude.{◌≡◌, ◌+◌, ◌<◌, ◌≤◌}
use Rattle.kit.specs.Names.{Bool, true, List, ℕ, length}
use Rattle.definitions.specs.ContractFile.{Statement, me_name, node_count}
use Rattle.definitions.specs.Original.{places_after, completes, disclosed_by}
use Rattle.theory_trees.specs.Trees.{statement_in}
use Rattle.memory_append.specs.Append.{Appended}
use Rattle.file_accepted.specs.Context.{nodes_in, fields_in}
use Rattle.ledger_circuits.specs.Circuits.{address_from}
use Rattle.disclose_expressions.specs.declared.Asked.{Asked}
use Rattle.disclose_expressions.specs.declared.Told.{Told}

module _ (file arguments addresses numbers : List ℕ) where
  unfoldable pub places_after_in : Statement → List ℕ
  places_after_in s = places_after (fields_in file) (address_from addresses) arguments numbers s

  unfoldable pub completes_in : Statement → Bool
  completes_in s = completes (fields_in file) (address_from addresses) arguments numbers s

  unfoldable pub disclosed_by_in : ℕ → Statement → List ℕ
  disclosed_by_in party s = disclosed_by (fields_in file) (address_from addresses) arguments party numbers s

  -- Statement n can be worked out, and there is room for what it discloses.
  pub record StatementReady (asked : Asked) (n : ℕ) (out : List ℕ) : Type 0 where
    pub inside : n < node_count file
    pub called : address_from addresses me_name ≡ asked.caller
    pub room : asked.at + length (disclosed_by_in asked.party (statement_in (nodes_in file) n)) ≤ length out

  -- The numbers of the places are told where the statement completes: after a failure nothing more is worked out.
  pub record StatementDisclosed (party : ℕ) (s : Statement) (numbers' before after : List ℕ) (at : ℕ) (r : Told) : Type 0 where
    pub values : Appended before after at (disclosed_by_in party s) r.at
    pub end : r.finished ≡ completes_in s
    pub places : r.finished ≡ true → numbers' ≡ places_after_in s
