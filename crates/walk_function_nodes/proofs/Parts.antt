-- A function's constraints and circuits as code puts them: those of its private parameters, then those of its body's events.
use Rattle.std.specs.Prelude.{◌≡◌, ◌∷◌, ◌++◌, ◌+◌, ◌*◌, ◌≤◌}
use Rattle.kit.specs.Names.{refl, ap, sym, ◌∙◌, Bool, true, false, cond, List, [], ℕ, suc, arith, length}
use Rattle.definitions.specs.Basics.{flat_map}
use Rattle.definitions.specs.ContractFile.{Parameter, node_count}
use Rattle.definitions.specs.Rewriting.{always, Constraint, WrittenFunction, private_parameters, openings, held_under, Tree, size, sizes, numbered_all, node_bytes, command_tree, claim_trees, function_trees}
use Rattle.theory_laws.proofs.Written.{opening_count, sizes_append}
use Rattle.theory_trees.specs.Trees.{statement_in}
use Rattle.memory_buffer.specs.Buffer.{stored}
use Rattle.memory_buffer.proofs.Storing.{stored_length}
use Rattle.file_accepted.specs.Context.{nodes_in, fields_in, parameters_in, scope_in}
use Rattle.file_accepted.specs.Functions.{root_at}
use Rattle.write_nodes.proofs.TreeNodes.{run_then}
use Rattle.rewrite_events.specs.Events.{constraints_of, statement_events}
use Rattle.rewrite_events.proofs.Functions.{function_constraints}
use Rattle.write_parameters.specs.Parameters.{private_count}
use Rattle.write_function_room.specs.Functions.{function_in, written_in, private_in, events_in, FunctionRoom}
use Rattle.write_circuits.specs.declared.Circuits.{Circuits}
use Rattle.write_circuits.specs.Circuits.{trees_of, fours_of, claims_in, Claimable, CircuitsRoom, CircuitsPut}
use Rattle.write_trees.specs.Numbers.{constraint_numbers}
use Rattle.write_circuits.proofs.Logged.{claims_logged, circuits_logged, count_logged}
use Rattle.write_circuits.proofs.Claimable.{claimable}
use Rattle.write_circuits.proofs.Within.{statement_within, claims_few}
use Rattle.walk_function_nodes.specs.Functions.{opening_numbers, circuit_trees, FunctionLogged, ConstraintsReady, ConstraintsPut}
use Rattle.walk_function_nodes.proofs.Openings.{numbers_length, opening_numbers_law, opening_trees, opening_claims_law}
use Rattle.file_accepted.proofs.Declarations.{parameters_count}
use Rattle.file_accepted.proofs.Nodes.{nodes_counted_law}

private_few : (k : ℕ) (ps : List Parameter) → length (private_parameters k ps) ≤ length ps
unfolding private_parameters
private_few k [] = omega arith
private_few k (p ∷ ps) = let h = private_few (suc k) ps in either p.private h
  where
    either : (t : Bool) → length (private_parameters (suc k) ps) ≤ length ps
        → length (cond t (k ∷ private_parameters (suc k) ps) (private_parameters (suc k) ps)) ≤ suc (length ps)
    either true h = omega arith
    either false h = omega arith

module _ (file : List ℕ) (at : ℕ) where
  abbrev written : WrittenFunction
  written = written_in file at

  abbrev claims : List Constraint
  claims = constraints_of (scope_in file at) (events_in file at)

  abbrev privates : List ℕ
  privates = private_parameters 0 (parameters_in file at)

  private_is_law : length privates ≡ private_in file at
  unfolding parameters_in private_count
  private_is_law = refl

  constraints_are : written.constraints ≡ held_under always (openings privates 0).claims ++ claims
  constraints_are =
      let body = statement_in (nodes_in file) (root_at file at) in
      function_constraints (fields_in file) (function_in file at)
      ∙ ap (λ (i : ℕ). held_under always (openings privates 0).claims ++ constraints_of (scope_in file at) (statement_events (scope_in file at) body always i))
      (opening_count privates 0 ∙ private_is_law)

  numbers_are : constraint_numbers 0 written.constraints ≡ opening_numbers 0 (private_in file at) ++ constraint_numbers 0 claims
  numbers_are =
      ap (constraint_numbers 0) constraints_are ∙ opening_numbers_law privates 0 0 claims
      ∙ ap (λ (n : ℕ). opening_numbers 0 n ++ constraint_numbers 0 claims) private_is_law

  trees_are : circuit_trees written ≡ flat_map (λ c. claim_trees c.claim) claims
  trees_are = ap (flat_map (λ c. claim_trees c.claim)) constraints_are ∙ opening_trees privates 0 claims

  count_is : length written.constraints ≡ private_in file at + length claims
  count_is = ap length constraints_are ∙ opening_claims_law privates 0 claims ∙ ap (λ (n : ℕ). n + length claims) private_is_law

  pub sizes_are : sizes (function_trees written) ≡ sizes (circuit_trees written) + size (command_tree written.body)
  unfolding sizes
  sizes_are = let e = sizes_append (circuit_trees written) (command_tree written.body ∷ []) in omega arith

  pub few_private : FunctionRoom file at 0 0 → private_in file at ≤ 8
  few_private room = omega (arith, private_few 0 (parameters_in file at), private_is_law, parameters_count file at, room.context.few_parameters)

  pub constraints_by_nodes : FunctionRoom file at 0 0 → length written.constraints ≤ node_count file + 8
  constraints_by_nodes room = omega (arith, count_is, few_private room, room.claims)

  pub constraints_bound : FunctionRoom file at 0 0 → length written.constraints ≤ 520
  constraints_bound room = omega (arith, constraints_by_nodes room, room.context.few_nodes)

  module _ (log : List ℕ) (entries private : ℕ) (logged : FunctionLogged file at log entries private) where
    claims_logged_are : (base : ℕ) → fours_of base (claims_in file at log 0 entries) ≡ constraint_numbers base claims
    claims_logged_are base =
        rw logged.count (claims_logged (scope_in file at) (nodes_in file) log (events_in file at) logged.held.numbers logged.held.entries 0 logged.held.holds base)

    trees_logged_are : trees_of (claims_in file at log 0 entries) ≡ circuit_trees written
    trees_logged_are =
        rw logged.count (circuits_logged (scope_in file at) (nodes_in file) log (events_in file at) logged.held.numbers logged.held.entries 0 logged.held.holds) ∙ sym trees_are

    count_logged_is : length (claims_in file at log 0 entries) ≡ length claims
    count_logged_is = rw logged.count (count_logged (scope_in file at) (nodes_in file) log (events_in file at) logged.held.numbers logged.held.entries 0 logged.held.holds)

    pub function_claimable : Claimable file at log 0 entries
    function_claimable =
        let body = statement_in (nodes_in file) (root_at file at) in
        let few = claims_few (scope_in file at) (statement_events (scope_in file at) body always) (private_in file at) (statement_within (scope_in file at) body always)
        (omega (arith, logged.room.variables)) in
        rw logged.count (claimable file at (nodes_counted_law file) log (events_in file at) logged.held.numbers logged.held.entries 0 logged.held.holds few)

    pub private_space : (numbers : List ℕ) → 4 * node_count file + 32 ≤ length numbers → (private ≤ 8) × (4 * private ≤ length numbers)
    private_space numbers space =
        let few = few_private logged.room in
        (omega (arith, logged.private_is), omega (arith, logged.private_is))

    module _ (numbers between out : List ℕ) (ready : ConstraintsReady file at log entries private numbers out)
        (opened : between ≡ stored numbers 0 (opening_numbers 0 private)) where
      opened_length : length between ≡ length numbers
      opened_length =
          let long = numbers_length 0 private in
          let space = private_space numbers ready.space in
          ap length opened ∙ stored_length numbers 0 (opening_numbers 0 private) (omega arith)

      pub circuits_room : CircuitsRoom out between 0 0 (4 * private) (claims_in file at log 0 entries)
      circuits_room =
          let trees = ap sizes trees_logged_are in
          let whole = sizes_are in
          record {
            bytes = omega (arith, ready.bytes);
            numbers = omega (arith, logged.room.nodes);
            space =
                omega (
                  arith,
                  opened_length,
                  ready.space,
                  count_logged_is,
                  logged.room.claims,
                  (private_space numbers ready.space).0,
                );
          }

      pub constraints_put : (numbers_after after : List ℕ) (r : Circuits) → CircuitsPut out after between numbers_after 0 0 (4 * private) (claims_in file at log 0 entries) r
          → ConstraintsPut written private numbers numbers_after out after r
      constraints_put numbers_after after r put =
          let long = numbers_length 0 private in
          let space = private_space numbers ready.space in
          let all : opening_numbers 0 private ++ fours_of 0 (claims_in file at log 0 entries) ≡ constraint_numbers 0 written.constraints =
          rw (logged.private_is, claims_logged_are 0) (sym numbers_are) in
          record {
            noted =
                run_then numbers between numbers_after (opening_numbers 0 private) (fours_of 0 (claims_in file at log 0 entries)) 0 (4 * private) opened put.noted
                (omega arith) (omega arith)
                ∙ ap (stored numbers 0) all;
            contents = put.contents ∙ ap (λ (l : List Tree). stored out 0 (flat_map node_bytes (numbered_all 0 l))) trees_logged_are;
            nodes = put.nodes ∙ ap sizes trees_logged_are;
            count = omega (arith, put.count, count_logged_is, count_is, logged.private_is);
          }
