-- The parts of a call with given parameters and supplied values, each by a name of its own: `call_with` is `after_done` where `is_done`, else `after_failed`.
use Rattle.kit.specs.Names.{Bool, List, [], map, ℕ}
use Rattle.definitions.specs.ContractFile.{Name, scope_of, contract_in}
use Rattle.definitions.specs.Rewriting.{WrittenFunction, rewrite_function}
use Rattle.definitions.specs.Original.{address_in}
use Rattle.definitions.specs.Ledger.{Content, Ledger, State, plain_number, state_after, walk_completes, function_of_ledger, public_of, after_call}

module _ (l : Ledger) (function caller : ℕ) (parameters variables : List Content) where
  abbrev pub written_function : WrittenFunction
  written_function = rewrite_function (contract_in l.file).fields (function_of_ledger l function)

  abbrev pub address_in_call : Name → ℕ
  address_in_call = address_in (scope_of (contract_in l.file) function) caller (map plain_number parameters) (map plain_number l.places)

  abbrev pub start_of_call : State
  start_of_call = record { places = l.places; variables = variables }

  abbrev pub is_done : Bool
  is_done = walk_completes address_in_call (contract_in l.file).fields parameters written_function.constraints start_of_call written_function.body

  abbrev pub after_done : Ledger
  after_done = after_call l function caller 0 parameters (state_after address_in_call (contract_in l.file).fields parameters start_of_call written_function.body)

  abbrev pub after_failed : Ledger
  after_failed = after_call l function caller 1 (public_of (function_of_ledger l function).parameters parameters) (record { places = l.places; variables = [] })
