-- 01, Runs and views: the walk of a call with given values, and what it makes of a ledger.
use Rattle.std.specs.Prelude.{◌≡◌, ◌<◌, ◌≤◌}
use Rattle.kit.specs.Names.{Bool, cond, List, map, ℕ, length, take}
use Rattle.definitions.specs.Basics.{is_zero}
use Rattle.definitions.specs.ContractFile.{function_count}
use Rattle.definitions.specs.Ledger.{Content, Ledger, State, plain_number, state_after, walk_completes, after_call}
use Rattle.definitions.specs.Original.{address_in}
use Rattle.file_accepted.specs.Context.{fields_in, scope_in}
use Rattle.file_accepted.specs.Functions.{function_start}
use Rattle.ledger_contents.specs.Contents.{contents_of}
use Rattle.ledger_circuits.specs.Circuits.{address_from}
use Rattle.walk_steps.specs.Walk.{Ran}
use Rattle.write_function_room.specs.Functions.{written_in}
use Rattle.ledger_struct.specs.Whole.{places_for}
use Rattle.call_with.specs.declared.Made.{Made}

-- The written body of the function that begins at a place was walked.
pub record Walked (file : List ℕ) (function_start : ℕ) (addresses parameters : List ℕ) (start end : State) (r : Bool) : Type 0 where
  pub ran : Ran (walk_completes (address_from addresses) (fields_in file) (contents_of parameters)
      (written_in file function_start).constraints start (written_in file function_start).body)
      (state_after (address_from addresses) (fields_in file) (contents_of parameters) start (written_in file function_start).body)
      end r

-- The same, where the addresses are those of the names in a call with these parameters.
pub record WalkedWith (file : List ℕ) (function_start caller : ℕ) (parameters : List ℕ) (start end : State) (r : Bool) : Type 0 where
  pub ran : let address = address_in (scope_in file function_start) caller (map plain_number (contents_of parameters))
      (map plain_number start.places) in
      Ran (walk_completes address (fields_in file) (contents_of parameters) (written_in file function_start).constraints start
      (written_in file function_start).body)
      (state_after address (fields_in file) (contents_of parameters) start (written_in file function_start).body)
      end r

-- A function of the ledger's file, by its number and by where it begins, and the ledger's places.
pub record Standing (l : Ledger) (function : ℕ) (file : List ℕ) (at : ℕ) (places : List ℕ) : Type 0 where
  pub same_file : file ≡ l.file
  pub inside : function < function_count l.file
  pub begins : at ≡ function_start file function
  pub stand : contents_of places ≡ l.places

-- The ledger after a call, from what the call leaves: "A failed call restores every place."
pub record MadeOf (l after : Ledger) (function caller : ℕ) (places variables : List ℕ) (r : Made) : Type 0 where
  pub shown : List Content
  pub parameters : r.parameters ≡ places_for 8 shown
  pub counted : r.parameter_count ≡ length shown
  pub fits : r.variables ≤ length variables
  pub is : after ≡ after_call l function caller r.outcome shown (record {
    places = cond (is_zero r.outcome) (contents_of places) l.places;
    variables = contents_of (take r.variables variables);
  })
