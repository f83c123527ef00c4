-- In a call that is not refused, the contents put for the variables are the honest ones, and they can be put.
use Rattle.std.specs.Prelude.{◌≡◌, ◌++◌, ◌+◌, ◌*◌, ◌<◌, ◌≤◌}
use Rattle.kit.specs.Names.{refl, ap, ap₂, sym, subst, ◌∙◌, true, List, map, ℕ, suc, arith, length, get_or}
use Rattle.kit.specs.Names.{replicate, length-append, length-replicate}
use Rattle.definitions.specs.ContractFile.{Name, Field, Function, Scope, Statement, function_at, field_count, function_count, owner_of_code, Node, contract_in}
use Rattle.definitions.specs.Owners.{no_links}
use Rattle.definitions.specs.Rewriting.{Variable, always, rewrite_statement, openings, private_parameters}
use Rattle.definitions.specs.Original.{address_in, reader_of}
use Rattle.definitions.specs.Ledger.{Content, Ledger, opened_number, call_number, honest_contents, honest_variables, honest_variables_of}
use Rattle.theory_laws.proofs.Written.{opening_count}
use Rattle.theory_relations.specs.Acceptance.{AcceptedBody}
use Rattle.theory_relations.specs.Environment.{Environment}
use Rattle.theory_typing.proofs.WellFormed.{ledger_body_accepted}
use Rattle.theory_typing.proofs.CallEnvironment.{call_well_formed, call_environment, function_exists}
use Rattle.file_accepted.specs.Context.{fields_in, parameters_in, nodes_in, scope_in}
use Rattle.file_accepted.specs.Functions.{function_start, root_at}
use Rattle.file_accepted.proofs.Functions.{fields_in_law, functions_count, function_in_law}
use Rattle.ledger_places.proofs.Positions.{fields_count}
use Rattle.write_parameters.specs.Parameters.{private_count}
use Rattle.rewrite_events.specs.Events.{Event, variables_of, variable_count}
use Rattle.rewrite_events.proofs.Statements.{statement_made}
use Rattle.rewrite_log.specs.Entries.{supplied_entry, claimed_entry, read_entry, guard_entry, end_entry, Entries, no_entry, entry_then}
use Rattle.write_variables.specs.PerEntry.{per_entry}
use Rattle.honest_statements.specs.Honest.{honest_numbers, contents_from, node_statement}
use Rattle.honest_statements.proofs.Contents.{call_is}
use Rattle.ledger_circuits.specs.Circuits.{address_from}
use Rattle.write_function_room.specs.Functions.{function_in, events_in, private_in}
use Rattle.honest_variables.specs.Slots.{slots_of}
use Rattle.honest_variables.specs.Variables.{code_of, codes_of, contents_of_codes, NarrowReader, VariablesRoom}
use Rattle.honest_variables.proofs.Slots.{slots_count}
use Rattle.honest_variables.proofs.Fitting.{EachOwned, statement_owned}
use Rattle.honest_variables.proofs.Told.{openings_told, entries_told, entries_narrow, openings_narrow}
use Rattle.honest_variables.proofs.Small.{AllSmall, small_append, small_zeros, small_at, honest_small}

-- As many codes as variables.
codes_counted : (nodes : List Node) {events : List Event} {log : List ℕ} → Entries nodes events log → length (per_entry code_of log) ≡ variable_count events
unfolding per_entry variables_of
codes_counted nodes no_entry = refl
codes_counted nodes (entry_then (supplied_entry i o n below) rest) = ap suc (codes_counted nodes rest)
codes_counted nodes (entry_then (claimed_entry g i o n below) rest) = codes_counted nodes rest
codes_counted nodes (entry_then (read_entry s j o n below) rest) = ap suc (codes_counted nodes rest)
codes_counted nodes (entry_then (guard_entry i) rest) = ap suc (codes_counted nodes rest)
codes_counted nodes (entry_then (end_entry i) rest) = codes_counted nodes rest

-- The honest variables of a function's call, by the fields and the function.
abbrev honest_of : ℕ → ℕ → List ℕ → List ℕ → List Field → Function → List Content
honest_of caller call arguments places fields called =
    let scope : Scope = record { fields = fields; parameters = called.parameters } in
    let address = address_in scope caller arguments places in
    let opening = openings (private_parameters 0 called.parameters) 0 in
    honest_contents scope address call arguments places 0 opening.variables
    ++ honest_variables scope address call arguments called.body places always (length opening.variables)

-- The function that begins at a place.
module _ (file : List ℕ) (at : ℕ) (arguments : List ℕ) (caller call : ℕ) (places : List ℕ) where
  abbrev scope : Scope
  scope = scope_in file at

  abbrev body : Statement
  body = node_statement file (root_at file at)

  abbrev address : Name → ℕ
  address = address_in (scope_in file at) caller arguments places

  abbrev privates : List ℕ
  privates = private_parameters 0 (parameters_in file at)

  privates_counted : length privates ≡ private_in file at
  unfolding parameters_in private_count
  privates_counted = refl

  openings_counted : length (openings privates 0).variables ≡ private_in file at
  openings_counted = opening_count privates 0 ∙ privates_counted

  module _ (few : field_count file ≤ 64) (accepted : AcceptedBody (scope_in file at) (node_statement file (root_at file at)))
      (env : Environment (scope_in file at) (address_in (scope_in file at) caller arguments places) arguments places) (log : List ℕ)
      (entries : Entries (nodes_in file) (events_in file at) log) where
    owned : EachOwned scope (variables_of (events_in file at))
    owned = statement_owned scope accepted.fields body no_links always (private_in file at) accepted.faultless accepted.constants

    fields_few : length scope.fields ≤ 64
    fields_few = omega (arith, fields_count file)

    pub function_honest : contents_of_codes address call 0 (codes_of (private_in file at) log) (slots_of file at arguments caller places)
        ≡ honest_of caller call arguments places (fields_in file) (function_in file at)
    unfolding slots_of
    function_honest =
        let numbers = replicate (private_in file at) 0 ++ honest_numbers file at arguments caller body true places (private_in file at) in
        ap (λ (n : ℕ). contents_of_codes address call 0 (replicate n 1 ++ per_entry code_of log) numbers) (sym privates_counted)
        ∙ openings_told address call privates 0 (per_entry code_of log) (variables_of (events_in file at))
        (entries_told address call scope fields_few (nodes_in file) entries owned) 0 numbers
        ∙ ap (λ (vs : List Variable). contents_from address call 0 ((openings privates 0).variables ++ vs) numbers) (statement_made scope body always (private_in file at)).variables
        ∙ ap₂ (λ (n k : ℕ). contents_from address call 0 ((openings privates 0).variables ++ (rewrite_statement scope body always n).variables)
        (replicate k 0 ++ honest_numbers file at arguments caller body true places n)) (sym openings_counted) (sym privates_counted)
        ∙ sym (call_is file at arguments caller address call refl body places privates)

    slots_small : AllSmall (slots_of file at arguments caller places)
    unfolding slots_of
    slots_small =
        small_append (replicate (private_in file at) 0) _ (small_zeros (private_in file at))
        (honest_small file at arguments caller address refl accepted.fields body no_links true places (private_in file at) env accepted.faultless accepted.constants)

    pub function_room : (addresses flat : List ℕ) → address_from addresses ≡ address → private_in file at + variable_count (events_in file at) ≤ 1024
        → length flat ≡ 5 * length (slots_of file at arguments caller places) → VariablesRoom log (private_in file at) (slots_of file at arguments caller places) addresses flat
    function_room addresses flat same most room =
        let counted = slots_count file at arguments caller places in
        record {
          count =
              counted
              ∙ sym (length-append (replicate (private_in file at) 1) (per_entry code_of log) ∙ ap₂ (λ (a b : ℕ). a + b) (length-replicate (private_in file at) 1) (codes_counted (nodes_in file) entries));
          room = room;
          few = omega arith;
          small = small_at (slots_of file at arguments caller places) slots_small;
          narrow = λ k.
              subst (λ (a : Name → ℕ). NarrowReader (reader_of a (owner_of_code (get_or (codes_of (private_in file at) log) k 0)))) (sym same)
              ((openings_narrow address call scope fields_few arguments places accepted.fields env (private_in file at) (per_entry code_of log)
              (entries_narrow address call scope fields_few arguments places accepted.fields env (nodes_in file) entries owned)).each k);
        }

-- The function that is called.
module _ (l : Ledger) (function caller : ℕ) (arguments : List ℕ) (clear : call_number l function caller arguments ≡ 0) where
  abbrev opened : List ℕ
  opened = map opened_number l.places

  abbrev start : ℕ
  start = function_start l.file function

  there : function < function_count l.file
  there = omega (arith, function_exists l function caller arguments clear, functions_count l.file)

  called_is : function_at (contract_in l.file).functions function ≡ function_in l.file (function_start l.file function)
  called_is = function_in_law l.file function there

  pub call_accepted : AcceptedBody (scope_in l.file (function_start l.file function)) (node_statement l.file (root_at l.file (function_start l.file function)))
  call_accepted =
      subst (λ (called : Function). AcceptedBody (record { fields = fields_in l.file; parameters = called.parameters }) called.body) called_is
      (subst (λ (fields : List Field). AcceptedBody (record { fields = fields; parameters = (function_at (contract_in l.file).functions function).parameters }) (function_at (contract_in l.file).functions function).body)
      (fields_in_law l.file) (ledger_body_accepted l (call_well_formed l function caller arguments clear) function))

  pub call_environment_in : Environment (scope_in l.file (function_start l.file function))
      (address_in (scope_in l.file (function_start l.file function)) caller arguments (map opened_number l.places)) arguments (map opened_number l.places)
  call_environment_in =
      subst (λ (called : Function). Environment (record { fields = fields_in l.file; parameters = called.parameters })
      (address_in (record { fields = fields_in l.file; parameters = called.parameters }) caller arguments opened) arguments opened) called_is
      (subst (λ (fields : List Field). Environment (record { fields = fields; parameters = (function_at (contract_in l.file).functions function).parameters })
      (address_in (record { fields = fields; parameters = (function_at (contract_in l.file).functions function).parameters }) caller arguments opened) arguments opened)
      (fields_in_law l.file) (call_environment l function caller arguments clear))

  honest_is_of : honest_of caller (suc l.call) arguments opened (fields_in l.file) (function_in l.file start) ≡ honest_variables_of l function caller arguments
  honest_is_of = sym (ap₂ (honest_of caller (suc l.call) arguments opened) (fields_in_law l.file) called_is)

  module _ (few : field_count l.file ≤ 64) (log addresses : List ℕ)
      (entries : Entries (nodes_in l.file) (events_in l.file (function_start l.file function)) log)
      (same : address_from addresses ≡ address_in (scope_in l.file (function_start l.file function)) caller arguments (map opened_number l.places)) where
    -- What is put for the variables is what honest callers supply.
    pub variables_honest : contents_of_codes (address_from addresses) (suc l.call) 0 (codes_of (private_in l.file (function_start l.file function)) log)
        (slots_of l.file (function_start l.file function) arguments caller (map opened_number l.places))
        ≡ honest_variables_of l function caller arguments
    variables_honest =
        ap (λ (a : Name → ℕ). contents_of_codes a (suc l.call) 0 (codes_of (private_in l.file start) log) (slots_of l.file start arguments caller opened)) same
        ∙ function_honest l.file start arguments caller (suc l.call) opened few call_accepted call_environment_in log entries ∙ honest_is_of

    -- It can be put where there is room.
    pub variables_room : (flat : List ℕ) → private_in l.file (function_start l.file function) + variable_count (events_in l.file (function_start l.file function)) ≤ 1024
        → length flat ≡ 5 * length (slots_of l.file (function_start l.file function) arguments caller (map opened_number l.places))
        → VariablesRoom log (private_in l.file (function_start l.file function))
        (slots_of l.file (function_start l.file function) arguments caller (map opened_number l.places)) addresses flat
    variables_room flat most room =
        function_room l.file start arguments caller (suc l.call) opened few call_accepted call_environment_in log entries addresses flat same most room
