-- The steps of walking a function: its log, its nodes and constraints, and the walk of what is written there.
use Rattle.std.specs.Prelude.{◌≡◌, ◌*◌, ◌-◌, ◌/◌}
use Rattle.kit.specs.Names.{ap, ◌∙◌, Bool, List, ℕ, arith, length, take}
use Rattle.definitions.specs.Rewriting.{WrittenFunction, sizes, numbered_all, command_tree, function_trees}
use Rattle.definitions.specs.Ledger as ledger
use Rattle.memory_buffer.proofs.Storing.{front_stored}
use Rattle.theory_laws.proofs.Written.{nodes_length}
use Rattle.memory_buffer.proofs.Storing.{stored_length}
use Rattle.file_accepted.specs.Context.{nodes_in, fields_in}
use Rattle.file_accepted.specs.Functions.{root_at}
use Rattle.ledger_contents.specs.Contents.{contents_of}
use Rattle.write_nodes.proofs.TreeNodes.{size_positive}
use Rattle.rewrite_log.specs.declared.Position.{Position}
use Rattle.rewrite_log.specs.Logs.{Logged}
use Rattle.write_logged_steps.proofs.Held.{stored_holds}
use Rattle.rewrite_expressions.specs.Translations.{Ready, statement_of}
use Rattle.rewrite_assignments.specs.Placing.{starting_at}
use Rattle.write_trees.specs.Trees.{command_in}
use Rattle.write_trees.specs.Table.{table_of}
use Rattle.write_trees.proofs.Functions.{all_length}
use Rattle.ledger_circuits.specs.Circuits.{address_from, constraints_from}
use Rattle.write_trees.specs.Numbers.{constraint_numbers}
use Rattle.walk_steps.specs.Walk.{after_from, completes_from, Ran}
use Rattle.write_function_room.specs.Functions.{written_in, private_in, events_in}
use Rattle.walk_narrow_trees.specs.Narrow.{Bytes, function_nodes, WrittenBack}
use Rattle.walk_narrow_trees.proofs.Functions.{function_back}
use Rattle.walk_function_nodes.specs.declared.Extent.{Extent}
use Rattle.walk_function_nodes.specs.Functions.{FunctionReady, FunctionPut}
use Rattle.walk_function_nodes.proofs.Parts.{sizes_are, constraints_by_nodes}
use Rattle.walk_function.specs.Walks.{LastReady, WalkReady}
use Rattle.write_trees.proofs.Numbers.{constraint_numbers_length}

module _ (file : List ℕ) (at : ℕ) (log numbers roots nodes : List ℕ) (ready : WalkReady file at log numbers roots nodes) where
  module _ (private : ℕ) (counted : private ≡ private_in file at) where
    pub log_ready : Ready file (root_at file at) log (starting_at private) (statement_of file at 0 (root_at file at))
    log_ready =
        rw counted
        (record {
          inside = ready.room.root;
          room = record { space = omega (arith, ready.room.events_by_nodes, ready.log_space); few = omega (arith, ready.room.variables) };
        })

    module _ (log_after : List ℕ) (end : Position) (logged : Logged (nodes_in file) log log_after (starting_at private) end (statement_of file at 0 (root_at file at) private)) where
      events_logged : Logged (nodes_in file) log log_after (starting_at (private_in file at)) end (events_in file at)
      events_logged = rw counted at logged

      entries_are : end.at / 5 ≡ length (events_in file at)
      entries_are = omega (arith, events_logged.next)

      pub function_ready : FunctionReady file at log_after (end.at / 5) private numbers roots nodes
      function_ready =
          record {
            constraints =
                record {
                  logged =
                      record {
                        room = ready.room;
                        private_is = counted;
                        held =
                            record {
                              numbers = events_logged.numbers;
                              entries = events_logged.entries;
                              holds = stored_holds log log_after events_logged.numbers 0 (omega arith) events_logged.held;
                            };
                        count = entries_are;
                      };
                  space = ready.numbers_space;
                  bytes = omega (arith, ready.room.nodes_by_parts, ready.nodes_space);
                };
            roots_space = ready.roots_space;
          }

  module _ (bytes : Bytes file) (numbers_after nodes_after : List ℕ) (r : Extent) (put : FunctionPut (written_in file at) numbers numbers_after nodes nodes_after r) where
    abbrev function : WrittenFunction
    function = written_in file at

    back : WrittenBack function
    back = function_back file at 0 0 bytes ready.room

    node_count_law : length (function_nodes function) ≡ 8 * sizes (function_trees function)
    node_count_law = nodes_length (numbered_all 0 (function_trees function)) ∙ ap (λ (n : ℕ). 8 * n) (all_length (function_trees function) 0)

    nodes_front : take (8 * r.nodes) nodes_after ≡ function_nodes function
    nodes_front = front_stored nodes nodes_after (function_nodes function) (8 * r.nodes) put.contents (omega (arith, put.nodes, node_count_law))

    numbers_front : take (4 * r.constraints) numbers_after ≡ constraint_numbers 0 function.constraints
    numbers_front =
        front_stored numbers numbers_after (constraint_numbers 0 function.constraints) (4 * r.constraints) put.noted
        (omega (arith, put.constraints, constraint_numbers_length 0 function.constraints))

    nodes_kept : length nodes_after ≡ length nodes
    nodes_kept = ap length put.contents ∙ stored_length nodes 0 (function_nodes function) (omega (arith, node_count_law, ready.room.nodes_by_parts, ready.nodes_space))

    numbers_kept : length numbers_after ≡ length numbers
    numbers_kept =
        ap length put.noted
        ∙ stored_length numbers 0 (constraint_numbers 0 function.constraints)
        (omega (arith, constraint_numbers_length 0 function.constraints, constraints_by_nodes file at ready.room, ready.numbers_space))

    pub last_ready : LastReady nodes_after r.nodes numbers_after r.constraints file
    last_ready =
        record {
          some = omega (arith, put.nodes, sizes_are file at, size_positive (command_tree function.body));
          bytes = omega (arith, nodes_kept, put.nodes, ready.room.nodes_by_parts, ready.nodes_space);
          space = omega (arith, numbers_kept, put.constraints, constraints_by_nodes file at ready.room, ready.numbers_space);
          readable = rw nodes_front back.readable;
          few_fields = ready.room.context.few_fields;
        }

    constraints_are : constraints_from (table_of (take (8 * r.nodes) nodes_after)) (take (4 * r.constraints) numbers_after) ≡ function.constraints
    constraints_are = rw (nodes_front, numbers_front) back.constraints

    body_is : command_in (table_of (take (8 * r.nodes) nodes_after)) (r.nodes - 1) ≡ function.body
    body_is = rw (nodes_front, put.nodes) back.body

    pub function_walked : (addresses parameters : List ℕ) (s end : ledger.State) (answer : Bool)
        → Ran
        (completes_from file addresses parameters (constraints_from (table_of (take (8 * r.nodes) nodes_after)) (take (4 * r.constraints) numbers_after)) s
        (command_in (table_of (take (8 * r.nodes) nodes_after)) (r.nodes - 1)))
        (after_from file addresses parameters s (command_in (table_of (take (8 * r.nodes) nodes_after)) (r.nodes - 1))) end answer
        → Ran (ledger.walk_completes (address_from addresses) (fields_in file) (contents_of parameters) function.constraints s function.body)
        (ledger.state_after (address_from addresses) (fields_in file) (contents_of parameters) s function.body) end answer
    unfolding completes_from after_from
    function_walked addresses parameters s end answer ran = rw (constraints_are, body_is) at ran
