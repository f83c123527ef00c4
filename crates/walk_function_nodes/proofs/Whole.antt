-- The circuits' nodes and then the body's are the function's.
use Rattle.std.specs.Prelude.{◌≡◌, ◌∷◌, ◌++◌, ◌+◌, ◌*◌, ◌≤◌}
use Rattle.kit.specs.Names.{ap, sym, ◌∙◌, Bool, List, [], ℕ, arith, zero-add, ltb, length}
use Rattle.definitions.specs.Basics.{flat_map}
use Rattle.definitions.specs.Rewriting.{WrittenFunction, sizes, numbered_all, node_bytes, command_tree, function_trees}
use Rattle.write_nodes.proofs.TreeNodes.{one_tree}
use Rattle.theory_laws.proofs.Written.{nodes_length}
use Rattle.memory_buffer.specs.Buffer.{stored}
use Rattle.memory_buffer.proofs.Storing.{stored_length}
use Rattle.write_nodes.specs.Numbering.{tree_bytes, Numbered}
use Rattle.write_nodes.proofs.TreeNodes.{nodes_append, run_then}
use Rattle.write_trees.proofs.Functions.{numbered_append, all_length}
use Rattle.write_function_room.specs.Functions.{written_in, FunctionRoom}
use Rattle.write_circuits.specs.declared.Circuits.{Circuits}
use Rattle.write_bodies.specs.Bodies.{BodyReady}
use Rattle.walk_function_nodes.specs.Functions.{circuit_trees, ConstraintsPut, FunctionReady, FunctionPut}
use Rattle.walk_function_nodes.proofs.Parts.{sizes_are, constraints_bound}

circuit_bytes : (w : WrittenFunction) → length (flat_map node_bytes (numbered_all 0 (circuit_trees w))) ≡ 8 * sizes (circuit_trees w)
circuit_bytes w = nodes_length (numbered_all 0 (circuit_trees w)) ∙ ap (λ (n : ℕ). 8 * n) (all_length (circuit_trees w) 0)

function_bytes_law : (w : WrittenFunction)
    → flat_map node_bytes (numbered_all 0 (circuit_trees w)) ++ tree_bytes (sizes (circuit_trees w)) (command_tree w.body) ≡ flat_map node_bytes (numbered_all 0 (function_trees w))
function_bytes_law w =
    let circuits = circuit_trees w in
    let t = command_tree w.body in
    let split = numbered_append circuits (t ∷ []) 0 ∙ ap (λ (n : ℕ). numbered_all 0 circuits ++ numbered_all n (t ∷ [])) (zero-add (sizes circuits)) in
    sym
    (ap (flat_map node_bytes) split ∙ nodes_append (numbered_all 0 circuits) (numbered_all (sizes circuits) (t ∷ []))
    ∙ ap (λ (l : List ℕ). flat_map node_bytes (numbered_all 0 circuits) ++ l) (one_tree (sizes circuits) t))

module _ (file : List ℕ) (at : ℕ) (log : List ℕ) (entries private : ℕ) (numbers roots out : List ℕ)
    (ready : FunctionReady file at log entries private numbers roots out) where
  abbrev written : WrittenFunction
  written = written_in file at

  abbrev room : FunctionRoom file at 0 0
  room = ready.constraints.logged.room

  module _ (numbers_after between : List ℕ) (r : Circuits) (put : ConstraintsPut written private numbers numbers_after out between r) where
    between_length : length between ≡ length out
    between_length =
        ap length put.contents
        ∙ stored_length out 0 (flat_map node_bytes (numbered_all 0 (circuit_trees written)))
        (omega (arith, circuit_bytes written, sizes_are file at, ready.constraints.bytes))

    pub circuits_few : (8 * r.nodes ≤ 49152) × (private + r.count ≤ 520)
    circuits_few = (omega (arith, put.nodes, sizes_are file at, room.nodes), omega (arith, put.count, constraints_bound file at room))

    pub body_ready : (verified : Bool) → verified ≡ ltb 0 (private + r.count)
        → BodyReady file at private verified log roots between (8 * r.nodes) r.nodes
    body_ready verified h =
        record {
          root = room.root;
          private_is = ready.constraints.logged.private_is;
          verifies = h ∙ ap (ltb 0) put.count;
          logged = ready.constraints.logged.held;
          steps = omega (arith, ready.roots_space, room.steps);
          few = omega (arith, room.variables);
          room =
              record {
                bytes = omega (arith, put.nodes, between_length, ready.constraints.bytes, sizes_are file at);
                numbers = omega (arith, put.nodes, room.nodes, sizes_are file at);
              };
        }

    pub function_put : (after : List ℕ) (nodes : ℕ) → Numbered between after (8 * r.nodes) r.nodes (command_tree written.body) nodes
        → FunctionPut written numbers numbers_after out after (record { nodes = r.nodes + nodes; constraints = private + r.count })
    function_put after nodes body =
        let t = command_tree written.body in
        let second : after ≡ stored between (8 * r.nodes) (tree_bytes (sizes (circuit_trees written)) t) =
        body.contents ∙ ap (λ (n : ℕ). stored between (8 * r.nodes) (tree_bytes n t)) put.nodes in
        record {
          noted = put.noted;
          contents =
              run_then out between after (flat_map node_bytes (numbered_all 0 (circuit_trees written))) (tree_bytes (sizes (circuit_trees written)) t) 0 (8 * r.nodes)
              put.contents second (omega (arith, put.nodes, circuit_bytes written)) (omega (arith, circuit_bytes written, sizes_are file at, ready.constraints.bytes))
              ∙ ap (stored out 0) (function_bytes_law written);
          nodes = omega (arith, put.nodes, body.nodes, sizes_are file at);
          constraints = put.count;
        }
