-- What the walk of a command makes of flat contents: whether it completes, and the state after it.
use Rattle.std.specs.Prelude.{◌≡◌, ◌||◌}
use Rattle.kit.specs.Names.{Bool, true, List, ℕ, eqb}
use Rattle.definitions.specs.Rewriting.{Command, Constraint}
use Rattle.definitions.specs.Ledger as ledger
use Rattle.file_accepted.specs.Context.{fields_in}
use Rattle.ledger_contents.specs.Contents.{contents_of}
use Rattle.ledger_circuits.specs.Circuits.{address_from}

module _ (file addresses parameters : List ℕ) where
  unfoldable pub after_from : ledger.State → Command → ledger.State
  after_from s command = ledger.state_after (address_from addresses) (fields_in file) (contents_of parameters) s command

  unfoldable pub completes_from : List Constraint → ledger.State → Command → Bool
  completes_from constraints s command =
      ledger.walk_completes (address_from addresses) (fields_in file) (contents_of parameters) constraints s command

-- The answer is whether the walk completes. What a walk that fails leaves behind is free: its caller gives it up.
pub record Ran (completes : Bool) (after end : ledger.State) (r : Bool) : Type 0 where
  pub done : r ≡ completes
  pub state : r ≡ true → end ≡ after

-- A sequence or an if, which hands the walk on to a part.
abbrev pub hands_on : ℕ → Bool
hands_on kind = eqb kind 17 || eqb kind 21
