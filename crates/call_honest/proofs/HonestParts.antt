-- The parts of the honest call: what is put from the original is what the call with given values is handed.
use Rattle.std.specs.Prelude.{◌≡◌, ◌*◌, ◌<◌, ◌≤◌}
use Rattle.kit.specs.Names.{ap, sym, ◌∙◌, List, map, ℕ, suc, arith, length, take}
use Rattle.definitions.specs.ContractFile.{Function, byte_at, function_count}
use Rattle.definitions.specs.Numbers.{check_number}
use Rattle.definitions.specs.Original.{address_in}
use Rattle.definitions.specs.Ledger.{Content, Ledger, opened_number, call_number, honest_parameters, honest_parameters_of, honest_variables_of}
use Rattle.memory_buffer.proofs.Storing.{front_stored}
use Rattle.file_accepted.proofs.Declarations.{parameters_count}
use Rattle.theory_typing.proofs.WellFormed.{ledger_accepted}
use Rattle.theory_typing.proofs.CallEnvironment.{call_well_formed, function_exists, argument_count}
use Rattle.file_accepted.specs.Context.{nodes_in, parameters_in, scope_in}
use Rattle.file_accepted.specs.Functions.{function_start, root_at}
use Rattle.file_accepted.proofs.Functions.{functions_count, function_in_law}
use Rattle.ledger_contents.specs.Contents.{contents_of}
use Rattle.rewrite_log.specs.declared.Position.{Position}
use Rattle.rewrite_log.specs.Entries.{Entries}
use Rattle.rewrite_log.specs.Logs.{Logged}
use Rattle.rewrite_expressions.specs.Translations.{Ready, statement_of}
use Rattle.rewrite_assignments.specs.Placing.{starting_at}
use Rattle.ledger_circuits.specs.Circuits.{address_from}
use Rattle.write_function_room.specs.Functions.{private_in, events_in, FunctionRoom}
use Rattle.write_function_room.proofs.Room.{function_room_alone}
use Rattle.write_logged_steps.proofs.Readings.{entries_length}
use Rattle.ledger_addresses.specs.Addresses.{AddressRoom}
use Rattle.honest_parameters.specs.Parameters.{ParametersRoom}
use Rattle.honest_variables.specs.Slots.{slots_of, SlotsRoom, SlotsPut}
use Rattle.honest_variables.specs.Variables.{codes_of, contents_of_codes, VariablesRoom}
use Rattle.honest_variables.proofs.Slots.{slots_count}
use Rattle.honest_variables.proofs.Call.{variables_honest, variables_room}
use Rattle.call_with.specs.Calls.{Standing}
use Rattle.call_honest.specs.Honest.{Called, Placed, Opened, LogRoom, LogPut, Told, WorkedOut}

-- A call that nothing refuses is made on an accepted file.
pub called_accepted : (l : Ledger) (function caller : ℕ) (arguments : List ℕ) → call_number l function caller arguments ≡ 0 → (file : List ℕ) → file ≡ l.file
    → check_number file ≡ 0
called_accepted l function caller arguments clear file same = ap check_number same ∙ ledger_accepted l (call_well_formed l function caller arguments clear)

-- The log of a body.
module _ (file : List ℕ) (at : ℕ) (private : ℕ) (log : List ℕ) (room : LogRoom file at private log) where
  pub log_ready : Ready file (root_at file at) log (starting_at private) (statement_of file at 0 (root_at file at))
  log_ready =
      rw room.private_is
      (record {
        inside = room.room.root;
        room = record { space = omega (arith, room.room.events, room.space); few = omega (arith, room.room.variables) };
      })

  pub log_put : (after : List ℕ) (end : Position) → Logged (nodes_in file) log after (starting_at private) end (statement_of file at 0 (root_at file at) private)
      → LogPut file at after end.at
  log_put after end logged =
      let events : Logged (nodes_in file) log after (starting_at (private_in file at)) end (events_in file at) = rw room.private_is at logged in
      let front : take end.at after ≡ events.numbers =
      front_stored log after events.numbers end.at events.held (omega (arith, events.next, entries_length (nodes_in file) (events_in file at) events.numbers events.entries)) in
      record { entries = rw front events.entries; fits = omega (arith, events.next, room.room.events) }

-- A call that is not refused can be worked out.
module _ (l : Ledger) (function caller : ℕ) (arguments file : List ℕ) (at : ℕ) (called : Called l function caller arguments file at) where
  pub function_there : function < function_count l.file
  function_there = omega (arith, function_exists l function caller arguments called.clear, functions_count l.file)

  pub file_accepted : check_number l.file ≡ 0
  file_accepted = ledger_accepted l (call_well_formed l function caller arguments called.clear)

  pub room_in_file : FunctionRoom l.file (function_start l.file function) 0 0
  room_in_file = function_room_alone l.file file_accepted function function_there

  pub room_here : FunctionRoom file at 0 0
  room_here = rw (called.begins, called.same_file) room_in_file

  pub arguments_in_file : length arguments ≡ byte_at l.file (function_start l.file function)
  arguments_in_file =
      argument_count l function caller arguments called.clear ∙ ap (λ (g : Function). length g.parameters) (function_in_law l.file function function_there)
      ∙ parameters_count l.file (function_start l.file function)

  pub arguments_counted : length arguments ≡ byte_at file at
  arguments_counted = rw (called.begins, called.same_file) arguments_in_file

  pub arguments_few : length arguments ≤ 8
  arguments_few = omega (arith, arguments_counted, room_here.context.few_parameters)

  pub function_near : at ≤ 200000
  function_near = room_here.context.near_function

  pub addresses_ready : (out : List ℕ) → length out ≡ 136 → AddressRoom file at out
  addresses_ready out long =
      let context = room_here.context in
      record {
        names = record { few_fields = context.few_fields; few_parameters = context.few_parameters; near_function = context.near_function };
        room = long;
      }

  pub parameters_ready : (flat : List ℕ) → length flat ≡ 5 * length arguments → ParametersRoom file at arguments flat
  parameters_ready flat long =
      let context = room_here.context in
      record { place = record { near = context.near_function; few = context.few_parameters }; count = arguments_counted; room = long }

  pub log_room : (private : ℕ) (log : List ℕ) → private ≡ private_in file at → 5120 ≤ length log → LogRoom file at private log
  log_room private log counted space = record { room = room_here; private_is = counted; space = space }

  pub slots_room : (slots : List ℕ) → 1024 ≤ length slots → SlotsRoom file at slots
  slots_room slots space = record { root = room_here.root; room = omega (arith, room_here.variables) }

  pub given_honest : (next : ℕ) (given : List Content) → next ≡ suc l.call → given ≡ honest_parameters caller next 0 (parameters_in file at) arguments
      → given ≡ honest_parameters_of l function caller arguments
  given_honest next given follows put =
      put ∙ rw (follows, called.begins, called.same_file)
      (ap (λ (g : Function). honest_parameters caller (suc l.call) 0 g.parameters arguments) (sym (function_in_law l.file function function_there)))

  -- The call is made on this function, with as many parameters as it has.
  pub standing : (places : List ℕ) → contents_of places ≡ l.places → Standing l function file at places
  standing places stand = record { same_file = called.same_file; inside = function_there; begins = called.begins; stand = stand }

  pub slots_few : (numbers before after : List ℕ) (made : ℕ) → SlotsPut file at arguments caller numbers before after made → made ≤ 1024
  slots_few numbers before after made put = omega (arith, put.count, room_here.variables)

pub opened_by : (l : Ledger) (function caller : ℕ) (arguments file : List ℕ) (at : ℕ) (places numbers : List ℕ) (private : ℕ)
    → Placed l function caller arguments file at places private → numbers ≡ map opened_number (contents_of places)
    → Opened l function caller arguments file at numbers private
opened_by l function caller arguments file at places numbers private placed opened =
    record { called = placed.called; opened = opened ∙ ap (map opened_number) placed.stand; private_is = placed.private_is }

-- The numbers that are told on opened places are those worked out.
pub worked_out_law : (l : Ledger) (function caller : ℕ) (arguments file : List ℕ) (at : ℕ) (numbers log : List ℕ) (private : ℕ)
    (addresses : List ℕ)
    → Told l function caller arguments file at numbers log private addresses → (before slots : List ℕ) (made : ℕ)
    → SlotsPut file at arguments caller numbers before slots made → WorkedOut l function caller arguments file at log private (take made slots) addresses
worked_out_law l function caller arguments file at numbers log private addresses told before slots made put =
    let opened = told.known.opened in
    record {
      called = told.known.called;
      entries = told.entries;
      private_is = told.known.private_is;
      slots_are = put.slots ∙ ap (slots_of file at arguments caller) opened;
      addresses_are = told.addressed.addresses ∙ ap (address_in (scope_in file at) caller arguments) opened;
    }

-- What is worked out can be put as contents, and these are the honest ones.
module _ (l : Ledger) (function caller : ℕ) (arguments file : List ℕ) (at : ℕ) (log : List ℕ) (private : ℕ) (slots addresses : List ℕ)
    (worked : WorkedOut l function caller arguments file at log private slots addresses) where
  abbrev known : Called l function caller arguments file at
  known = worked.called

  abbrev start : ℕ
  start = function_start l.file function

  abbrev opened : List ℕ
  opened = map opened_number l.places

  entries_in_file : Entries (nodes_in l.file) (events_in l.file start) log
  entries_in_file = rw (known.begins, known.same_file) at worked.entries

  addresses_in_file : address_from addresses ≡ address_in (scope_in l.file start) caller arguments opened
  addresses_in_file = rw (known.begins, known.same_file) at worked.addresses_are

  slots_in_file : slots ≡ slots_of l.file start arguments caller opened
  slots_in_file = rw (known.begins, known.same_file) at worked.slots_are

  private_in_file : private ≡ private_in l.file start
  private_in_file = rw (known.begins, known.same_file) at worked.private_is

  in_file : FunctionRoom l.file start 0 0
  in_file = room_in_file l function caller arguments file at known

  pub variables_ready : (flat : List ℕ) → length flat ≡ 5 * length slots → VariablesRoom log private slots addresses flat
  variables_ready flat long =
      rw (private_in_file, slots_in_file)
      (variables_room l function caller arguments known.clear in_file.context.few_fields log addresses entries_in_file addresses_in_file flat in_file.variables
      (rw slots_in_file at long))

  pub slots_within : length slots ≤ 1024
  slots_within = rw slots_in_file (omega (arith, slots_count l.file start arguments caller opened, in_file.variables))

  variables_are : contents_of_codes (address_from addresses) (suc l.call) 0 (codes_of private log) slots ≡ honest_variables_of l function caller arguments
  variables_are =
      rw (private_in_file, slots_in_file)
      (variables_honest l function caller arguments known.clear in_file.context.few_fields log addresses entries_in_file addresses_in_file)

  pub supplied_honest : (next : ℕ) (variables : List Content) → next ≡ suc l.call
      → variables ≡ contents_of_codes (address_from addresses) next 0 (codes_of private log) slots → variables ≡ honest_variables_of l function caller arguments
  supplied_honest next variables follows put =
      put ∙ ap (λ (n : ℕ). contents_of_codes (address_from addresses) n 0 (codes_of private log) slots) follows ∙ variables_are
