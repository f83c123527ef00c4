-- The log of a function's events, read for its circuits and for its heading.
use Rattle.std.specs.Prelude.{◌≡◌, ◌++◌, ◌+◌, ◌*◌, ◌-◌, ◌/◌, ◌≤◌}
use Rattle.kit.specs.Names.{ap, sym, ◌∙◌, subst, List, ℕ, arith, length, take, drop, take-append_seam}
use Rattle.definitions.specs.Basics.{flat_map}
use Rattle.definitions.specs.Rewriting.{always, Tree, sizes, numbered_all, node_bytes, constraint_bytes}
use Rattle.file_accepted.proofs.Nodes.{nodes_counted_law}
use Rattle.theory_trees.specs.Trees.{statement_in}
use Rattle.memory_buffer.specs.Buffer.{stored}
use Rattle.memory_buffer.proofs.Storing.{stored_length}
use Rattle.file_accepted.specs.Context.{nodes_in, scope_in}
use Rattle.file_accepted.specs.Functions.{root_at}
use Rattle.rewrite_events.specs.Events.{variable_count, statement_events}
use Rattle.rewrite_log.specs.Entries.{Entries}
use Rattle.rewrite_log.specs.declared.Position.{Position}
use Rattle.rewrite_log.specs.Logs.{Logged}
use Rattle.rewrite_expressions.specs.Translations.{Ready, statement_of}
use Rattle.rewrite_assignments.specs.Placing.{starting_at}
use Rattle.write_logged_steps.specs.Held.{Holds}
use Rattle.write_logged_steps.proofs.Held.{stored_holds}
use Rattle.write_logged_steps.proofs.Readings.{entries_length}
use Rattle.write_circuits.specs.declared.Circuits.{Circuits}
use Rattle.write_trees.specs.Numbers.{constraint_numbers}
use Rattle.write_circuits.specs.Circuits.{trees_of, fours_of, claims_in, Claimable, CircuitsRoom, CircuitsPut, sixes_from}
use Rattle.write_circuits.proofs.Logged.{claims_logged, circuits_logged, count_logged}
use Rattle.write_circuits.proofs.Claims.{constraints_told}
use Rattle.write_circuits.proofs.Within.{statement_within, claims_few}
use Rattle.write_circuits.proofs.Claimable.{claimable}
use Rattle.write_function_room.specs.Functions.{private_in, events_in}
use Rattle.write_functions.specs.Writing.{constraints_in, circuits_in, CircuitsReady, CircuitsWritten}
use Rattle.write_functions.proofs.Written.{trees_counted}

take_stored : (held values : List ℕ) (n : ℕ) → n ≡ length values → take n (stored held 0 values) ≡ values
unfolding stored
take_stored held values n e = ap (λ (k : ℕ). take k (values ++ drop (0 + length values) held)) e ∙ take-append_seam values (drop (0 + length values) held)

module _ (file : List ℕ) (at : ℕ) (log numbers out : List ℕ) (base : ℕ) (ready : CircuitsReady file at log numbers out base) (private : ℕ)
    (opened : private ≡ private_in file at) where
  same_events : statement_of file at 0 (root_at file at) private ≡ events_in file at
  same_events = ap (statement_of file at 0 (root_at file at)) opened

  pub log_ready : Ready file (root_at file at) log (starting_at private) (statement_of file at 0 (root_at file at))
  log_ready =
      let long = ap length same_events in
      let many = ap variable_count same_events in
      record {
        inside = ready.room.root;
        room = record { space = omega (arith, ready.room.events_by_nodes, ready.log_space); few = omega (arith, ready.room.variables) };
      }

  module _ (log_after : List ℕ) (end : Position) (logged : Logged (nodes_in file) log log_after (starting_at private) end (statement_of file at 0 (root_at file at) private)) where
    entries : Entries (nodes_in file) (events_in file at) logged.numbers
    entries = rw same_events at logged.entries

    holds : Holds log_after logged.numbers 0
    holds = stored_holds log log_after logged.numbers 0 (omega arith) logged.held

    end_place : end.at ≡ 5 * length (events_in file at)
    end_place = let long = ap length same_events in omega (arith, logged.next)

    pub entries_counted : end.at / 5 ≡ length (events_in file at)
    entries_counted = omega (arith, end_place)

    few : private_in file at + variable_count (events_in file at) ≤ 65535
    few = omega (arith, ready.room.variables)

    log_kept : length log_after ≡ length log
    log_kept =
        let long = entries_length (nodes_in file) (events_in file at) logged.numbers entries in
        ap length logged.held ∙ stored_length log 0 logged.numbers (omega (arith, ready.room.events_by_nodes, ready.log_space))

    trees_logged : trees_of (claims_in file at log_after 0 (length (events_in file at))) ≡ circuits_in file at
    trees_logged = circuits_logged (scope_in file at) (nodes_in file) log_after (events_in file at) logged.numbers entries 0 holds

    numbers_logged : fours_of base (claims_in file at log_after 0 (length (events_in file at))) ≡ constraint_numbers base (constraints_in file at)
    numbers_logged = claims_logged (scope_in file at) (nodes_in file) log_after (events_in file at) logged.numbers entries 0 holds base

    claims_counted : length (claims_in file at log_after 0 (length (events_in file at))) ≡ length (constraints_in file at)
    claims_counted = count_logged (scope_in file at) (nodes_in file) log_after (events_in file at) logged.numbers entries 0 holds

    abbrev Asked : ℕ → Type 0
    Asked left = (Claimable file at log_after 0 left) × CircuitsRoom out numbers (8 * base) base 0 (claims_in file at log_after 0 left)

    circuits_asked_all : Asked (length (events_in file at))
    circuits_asked_all =
        let within = statement_within (scope_in file at) (statement_in (nodes_in file) (root_at file at)) always in
        let total = trees_counted file at in
        let sized = ap sizes trees_logged in
        let counted = claims_counted in (
          claimable file at (nodes_counted_law file) log_after (events_in file at) logged.numbers entries 0 holds
              (claims_few (scope_in file at) (statement_events (scope_in file at) (statement_in (nodes_in file) (root_at file at)) always) (private_in file at) within few),
          record {
            bytes = omega (arith, ready.room.nodes_by_parts, ready.node_space);
            numbers = omega (arith, ready.room.nodes);
            space = omega (arith, ready.room.claims, ready.number_space);
          },
        )

    pub circuits_asked : (Claimable file at log_after 0 (end.at / 5)) × CircuitsRoom out numbers (8 * base) base 0 (claims_in file at log_after 0 (end.at / 5))
    circuits_asked = subst Asked (sym entries_counted) circuits_asked_all

    module _ (numbers_after after : List ℕ) (r : Circuits) (put : CircuitsPut out after numbers numbers_after (8 * base) base 0 (claims_in file at log_after 0 (end.at / 5)) r) where
      put_all : CircuitsPut out after numbers numbers_after (8 * base) base 0 (claims_in file at log_after 0 (length (events_in file at))) r
      put_all = subst (λ (left : ℕ). CircuitsPut out after numbers numbers_after (8 * base) base 0 (claims_in file at log_after 0 left) r) entries_counted put

      count_is : r.count ≡ length (constraints_in file at)
      count_is = put_all.count ∙ claims_counted

      noted_is : numbers_after ≡ stored numbers 0 (constraint_numbers base (constraints_in file at))
      noted_is = put_all.noted ∙ ap (stored numbers 0) numbers_logged

      bytes_are : sixes_from numbers_after 0 r.count ≡ constraint_bytes base (constraints_in file at)
      bytes_are =
          ap (sixes_from numbers_after 0) count_is
          ∙ constraints_told numbers_after (constraints_in file at) base 0 (stored_holds numbers numbers_after (constraint_numbers base (constraints_in file at)) 0 (omega arith) noted_is)

      pub circuits_written : length numbers_after ≡ length numbers → CircuitsWritten file at log_after numbers_after out after base
          (record { private = private; logged = end.at; made = end.variable - private; claims = r.count; nodes = r.nodes })
      circuits_written kept =
          let long = entries_length (nodes_in file) (events_in file at) logged.numbers entries in
          let place = end_place in
          let same = log_kept in
          let many = ap variable_count same_events in
          let front : take end.at log_after ≡ logged.numbers =
          ap (take end.at) logged.held ∙ take_stored log logged.numbers end.at (omega arith) in
          record {
            told = record {
              private = opened;
              made = omega (arith, logged.variable);
              logged = omega (arith, ready.room.events_by_nodes, ready.log_space);
              entries = subst (Entries (nodes_in file) (events_in file at)) (sym front) entries;
              claims = count_is;
              fours = omega (arith, count_is, ready.room.claims, ready.number_space);
              bytes = bytes_are;
            };
            contents = put_all.contents ∙ ap (λ (ts : List Tree). stored out (8 * base) (flat_map node_bytes (numbered_all base ts))) trees_logged;
            nodes = put_all.nodes ∙ ap sizes trees_logged;
          }
