-- 01, Runs and views: what the original works out for a call, as code holds it before it is handed to the call with given values.
use Rattle.std.specs.Prelude.{◌≡◌, ◌*◌, ◌≤◌}
use Rattle.kit.specs.Names.{List, map, ℕ, length, take}
use Rattle.definitions.specs.Original.{address_in}
use Rattle.definitions.specs.Ledger.{Ledger, opened_number, call_number, honest_parameters_of, honest_variables_of}
use Rattle.file_accepted.specs.Context.{nodes_in, scope_in}
use Rattle.file_accepted.specs.Functions.{function_start}
use Rattle.rewrite_log.specs.Entries.{Entries}
use Rattle.ledger_contents.specs.Contents.{contents_of}
use Rattle.ledger_struct.specs.Ledgers.{Flat}
use Rattle.ledger_circuits.specs.Circuits.{address_from}
use Rattle.write_function_room.specs.Functions.{private_in, events_in, FunctionRoom}
use Rattle.ledger_addresses.specs.Addresses.{Addressed}
use Rattle.honest_variables.specs.Slots.{slots_of}

-- A call that is not refused, of the function that begins at a place of the ledger's file.
pub record Called (l : Ledger) (function caller : ℕ) (arguments file : List ℕ) (at : ℕ) : Type 0 where
  pub clear : call_number l function caller arguments ≡ 0
  pub same_file : file ≡ l.file
  pub begins : at ≡ function_start file function

-- The ledger's places stand apart.
pub record Placed (l : Ledger) (function caller : ℕ) (arguments file : List ℕ) (at : ℕ) (places : List ℕ) (private : ℕ) : Type 0 where
  pub called : Called l function caller arguments file at
  pub stand : contents_of places ≡ l.places
  pub private_is : private ≡ private_in file at

-- There is a ledger on which the call is made.
pub record PlacedOnce (function caller : ℕ) (arguments file : List ℕ) (at : ℕ) (places : List ℕ) (private : ℕ) : Type 0 where
  pub ledger : Ledger
  pub known : Placed ledger function caller arguments file at places private

-- The places' numbers are those of their contents opened.
pub record Opened (l : Ledger) (function caller : ℕ) (arguments file : List ℕ) (at : ℕ) (numbers : List ℕ) (private : ℕ) : Type 0 where
  pub called : Called l function caller arguments file at
  pub opened : numbers ≡ map opened_number l.places
  pub private_is : private ≡ private_in file at

-- The log of a function's body fits.
pub record LogRoom (file : List ℕ) (at : ℕ) (private : ℕ) (log : List ℕ) : Type 0 where
  pub room : FunctionRoom file at 0 0
  pub private_is : private ≡ private_in file at
  pub space : 5120 ≤ length log

-- The first numbers of the log are those of the body's events.
pub record LogPut (file : List ℕ) (at : ℕ) (log : List ℕ) (r : ℕ) : Type 0 where
  pub entries : Entries (nodes_in file) (events_in file at) (take r log)
  pub fits : r ≤ 5120

-- On opened places: the entries of the body's events, and the address of each name.
pub record Told (l : Ledger) (function caller : ℕ) (arguments file : List ℕ) (at : ℕ) (numbers log : List ℕ)
    (private : ℕ) (addresses : List ℕ) : Type 0 where
  pub known : Opened l function caller arguments file at numbers private
  pub entries : Entries (nodes_in file) (events_in file at) log
  pub addressed : Addressed file at caller arguments numbers addresses

pub record ToldOnce (function caller : ℕ) (arguments file : List ℕ) (at : ℕ) (numbers log : List ℕ)
    (private : ℕ) (addresses : List ℕ) : Type 0 where
  pub ledger : Ledger
  pub told : Told ledger function caller arguments file at numbers log private addresses

-- The numbers that the original works out for the variables, and the address of each name, on the places opened.
pub record WorkedOut (l : Ledger) (function caller : ℕ) (arguments file : List ℕ) (at : ℕ) (log : List ℕ) (private : ℕ)
    (slots addresses : List ℕ) : Type 0 where
  pub called : Called l function caller arguments file at
  pub entries : Entries (nodes_in file) (events_in file at) log
  pub private_is : private ≡ private_in file at
  pub slots_are : slots ≡ slots_of file at arguments caller (map opened_number l.places)
  pub addresses_are : address_from addresses ≡ address_in (scope_in file at) caller arguments (map opened_number l.places)

-- The contents that an honest call is handed.
pub record Supplied (l : Ledger) (function caller : ℕ) (arguments given supplied : List ℕ) (r : ℕ) : Type 0 where
  pub parameters : contents_of (take (5 * length arguments) given) ≡ honest_parameters_of l function caller arguments
  pub variables : Flat (honest_variables_of l function caller arguments) supplied 1024 r
