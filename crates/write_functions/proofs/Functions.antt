-- A function's circuits, then its body: the nodes of both together, and room for the body and the heading.
use Rattle.std.specs.Prelude.{◌≡◌, ◌∷◌, ◌++◌, ◌+◌, ◌*◌, ◌≤◌}
use Rattle.kit.specs.Names.{refl, ap, sym, ◌∙◌, Bool, List, [], ℕ, arith, ltb, length, take, drop}
use Rattle.kit.specs.Names.{take-append-drop}
use Rattle.definitions.specs.Basics.{flat_map}
use Rattle.definitions.specs.ContractFile.{byte_at}
use Rattle.definitions.specs.Rewriting.{Tree, size, sizes, numbered_all, node_bytes, command_tree, function_trees, function_bytes}
use Rattle.write_nodes.proofs.TreeNodes.{one_tree}
use Rattle.theory_laws.proofs.Written.{nodes_length}
use Rattle.theory_crossings.specs.Crossings.{crossings}
use Rattle.theory_trees.specs.Trees.{statement_in}
use Rattle.memory_buffer.specs.Buffer.{stored}
use Rattle.memory_buffer.proofs.Storing.{stored_length}
use Rattle.memory_append.specs.Append.{Appended}
use Rattle.file_accepted.specs.Context.{nodes_in, fields_in, parameters_in}
use Rattle.file_accepted.specs.Functions.{root_at}
use Rattle.rewrite_log.proofs.FiveNumbers.{entries_length}
use Rattle.write_variables.specs.PerEntry.{count_tag}
use Rattle.write_heading_laws.proofs.Heading.{crossings_counted}
use Rattle.write_nodes.specs.Numbering.{tree_bytes, Numbered}
use Rattle.write_nodes.proofs.TreeNodes.{nodes_append, run_then}
use Rattle.write_trees.proofs.Functions.{numbered_append, all_length}
use Rattle.write_logged_steps.specs.Held.{HoldsEvents}
use Rattle.write_bodies.specs.Bodies.{BodyReady}
use Rattle.write_room.specs.Rooms.{most_bytes}
use Rattle.write_function_room.specs.Functions.{written_in, events_in}
use Rattle.write_functions.specs.declared.Parts.{Parts}
use Rattle.write_functions.specs.Writing.{circuits_in, CircuitsReady, CircuitsWritten, HeadingReady, FunctionReady, FunctionWritten}
use Rattle.write_functions.proofs.Written.{constraints_counted, trees_are, trees_counted}

-- The bytes of trees with one more behind them.
bytes_then : (ts : List Tree) (t : Tree) (n : ℕ)
    → flat_map node_bytes (numbered_all n (ts ++ (t ∷ []))) ≡ flat_map node_bytes (numbered_all n ts) ++ tree_bytes (n + sizes ts) t
bytes_then ts t n =
    ap (flat_map node_bytes) (numbered_append ts (t ∷ []) n) ∙ nodes_append (numbered_all n ts) (numbered_all (n + sizes ts) (t ∷ []))
    ∙ ap (λ (l : List ℕ). flat_map node_bytes (numbered_all n ts) ++ l) (one_tree (n + sizes ts) t)

trees_length : (ts : List Tree) (n : ℕ) → length (flat_map node_bytes (numbered_all n ts)) ≡ 8 * sizes ts
trees_length ts n = nodes_length (numbered_all n ts) ∙ ap (λ (k : ℕ). 8 * k) (all_length ts n)

module _ (file : List ℕ) (at : ℕ) (log roots numbers headings : List ℕ) (from : ℕ) (nodes : List ℕ) (base : ℕ)
    (ready : FunctionReady file at log roots numbers headings from nodes base) where
  pub circuits_ready : CircuitsReady file at log numbers nodes base
  circuits_ready =
      record { from = from; room = ready.room; log_space = ready.log_space; number_space = ready.number_space; node_space = ready.node_space }

  module _ (log_after numbers_after between : List ℕ) (parts : Parts) (written : CircuitsWritten file at log_after numbers_after nodes between base parts) where
    pub nodes_few : 8 * (base + parts.nodes) + 8 * size (command_tree (written_in file at).body) ≤ 49152
    nodes_few = omega (arith, ready.room.nodes, trees_counted file at, written.nodes)

    nodes_fit : 8 * (base + parts.nodes) + 8 * size (command_tree (written_in file at).body) ≤ most_bytes file
    nodes_fit = omega (arith, ready.room.nodes_by_parts, trees_counted file at, written.nodes)

    pub constraints_fit : parts.private + parts.claims ≤ 65535
    constraints_fit =
        omega (arith, written.told.private, written.told.claims, ready.room.claims, ready.room.context.few_nodes, ready.room.variables)

    -- What is counted is the log that the heading's variables are written from.
    pub log_few : (parts.private ≤ 1024) × (length (take parts.logged log_after) ≤ 5120)
    log_few =
        (omega (arith, written.told.private, ready.room.variables), omega (arith, entries_length (nodes_in file) written.told.entries, ready.room.events))

    pub crossings_are : (count : ℕ) → count ≡ parts.private + (count_tag 0 (take parts.logged log_after) + count_tag 2 (take parts.logged log_after)) → count ≡ crossings (written_in file at)
    unfolding parameters_in
    crossings_are count e =
        let told = crossings_counted (fields_in file) (nodes_in file) file (at + 1) (byte_at file at) (statement_in (nodes_in file) (root_at file at)) (take parts.logged log_after) written.told.entries ready.room.owners in
        omega (arith, written.told.private)

    kept : length between ≡ length nodes
    kept =
        let long = trees_length (circuits_in file at) base in
        let few = nodes_fit in
        ap length written.contents ∙ stored_length nodes (8 * base) (flat_map node_bytes (numbered_all base (circuits_in file at))) (omega (arith, ready.node_space, written.nodes))

    events_held : HoldsEvents (nodes_in file) log_after 0 (events_in file at)
    events_held =
        record {
          numbers = take parts.logged log_after;
          entries = written.told.entries;
          holds = record { front = []; back = drop parts.logged log_after; split = sym (take-append-drop parts.logged log_after); place = refl };
        }

    pub body_ready : (verified : Bool) → verified ≡ ltb 0 (parts.private + parts.claims)
        → BodyReady file at parts.private verified log_after roots between (8 * (base + parts.nodes)) (base + parts.nodes)
    body_ready verified test =
        let few = nodes_few in
        let fit = nodes_fit in
        let same = kept in
        let counted : parts.private + parts.claims ≡ length (written_in file at).constraints =
        omega (arith, constraints_counted file at, written.told.private, written.told.claims) in
        record {
          root = ready.room.root;
          private_is = written.told.private;
          verifies = test ∙ ap (ltb 0) counted;
          logged = events_held;
          steps = omega (arith, ready.room.steps, ready.root_space);
          few = omega (arith, ready.room.variables);
          room = record { bytes = omega (arith, ready.node_space); numbers = omega arith };
        }

    module _ (after : List ℕ) (body : ℕ) (put : Numbered between after (8 * (base + parts.nodes)) (base + parts.nodes) (command_tree (written_in file at).body) body) where
      pub total_is : parts.nodes + body ≡ sizes (function_trees (written_in file at))
      total_is = omega (arith, written.nodes, put.nodes, trees_counted file at)

      pub total_few : parts.nodes + body ≤ 49152
      total_few = let total = total_is in omega (arith, ready.room.nodes)

      pub heading_ready : HeadingReady file at log_after numbers_after headings from parts base (parts.nodes + body)
      heading_ready = record { room = ready.room; told = written.told; whole = total_is; heading_space = ready.heading_space }

      nodes_stored : after ≡ stored nodes (8 * base) (flat_map node_bytes (numbered_all base (function_trees (written_in file at))))
      nodes_stored =
          let circuits = circuits_in file at in
          let tree = command_tree (written_in file at).body in
          let long = trees_length circuits base in
          let few = nodes_fit in
          let later : after ≡ stored between (8 * (base + sizes circuits)) (tree_bytes (base + sizes circuits) tree) = rw written.nodes at put.contents in
          run_then nodes between after (flat_map node_bytes (numbered_all base circuits)) (tree_bytes (base + sizes circuits) tree) (8 * base) (8 * (base + sizes circuits)) written.contents later
          (omega arith) (omega (arith, ready.node_space, written.nodes))
          ∙ ap (stored nodes (8 * base)) (sym (bytes_then circuits tree base) ∙ ap (λ (ts : List Tree). flat_map node_bytes (numbered_all base ts)) (sym (trees_are file at)))

      pub function_written_law : (headings_after : List ℕ) (end count : ℕ) → Appended headings headings_after from (function_bytes base (written_in file at)) end
          → count ≡ parts.private + (count_tag 0 (take parts.logged log_after) + count_tag 2 (take parts.logged log_after))
          → FunctionWritten file at headings headings_after from nodes after base (record { extent = record { end = end; nodes = parts.nodes + body }; crossings = count })
      function_written_law headings_after end count appended counted =
          record { heading = appended.contents; end = appended.place; contents = nodes_stored; count = total_is; crossings = crossings_are count counted }
