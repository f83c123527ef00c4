-- Steps before a rest: room for each of the three runs, and the runs together.
use Rattle.std.specs.Prelude.{◌≡◌, ◌++◌, ◌+◌, ◌*◌, ◌-◌, ◌≤◌}
use Rattle.kit.specs.Names.{refl, ap, ap₂, sym, ◌∙◌, List, append_assoc, ℕ, arith, length, take, drop}
use Rattle.kit.specs.Names.{length-append, take_at}
use Rattle.definitions.specs.Basics.{flat_map}
use Rattle.definitions.specs.Rewriting.{Command, Step, steps_before, size, sizes, numbered, numbered_all, node_bytes, command_tree}
use Rattle.theory_laws.proofs.Written.{all_length, nodes_length}
use Rattle.memory_buffer.specs.Buffer.{stored}
use Rattle.memory_buffer.proofs.Storing.{stored_length}
use Rattle.write_nodes.specs.Numbering.{tree_bytes, Room, Numbered}
use Rattle.write_nodes.proofs.TreeNodes.{nodes_append, bytes_length, size_positive, run_then, numbered_keeps}
use Rattle.write_steps.specs.declared.Steps.{Steps}
use Rattle.write_steps.specs.Steps.{step_trees, step_roots, closers, StepsRoom, StepsPut}
use Rattle.write_steps.proofs.Nesting.{roots_length, nested_size, nested_nodes}

pub steps_length : (base : ℕ) (steps : List Step) → length (flat_map node_bytes (numbered_all base (step_trees steps))) ≡ 8 * sizes (step_trees steps)
steps_length base steps = nodes_length (numbered_all base (step_trees steps)) ∙ ap (λ (n : ℕ). 8 * n) (all_length base (step_trees steps))

module _ (out roots : List ℕ) (at base : ℕ) (steps : List Step) (rest : Command) (room : Room out at base (command_tree (steps_before steps rest)))
    (enough : length steps ≤ length roots) where
  pub nested_steps_room : StepsRoom out roots at base 0 steps
  nested_steps_room =
      let total = nested_size steps rest in
      record { bytes = omega (arith, room.bytes); numbers = omega (arith, room.numbers); space = omega arith }

  module _ (between roots_after : List ℕ) (r : Steps) (put : StepsPut out between roots roots_after at base 0 steps r) where
    kept : length between ≡ length out
    kept =
        let total = nested_size steps rest in
        ap length put.contents
        ∙ stored_length out at (flat_map node_bytes (numbered_all base (step_trees steps))) (omega (arith, room.bytes, steps_length base steps))

    pub nested_rest_room : Room between (at + 8 * r.nodes) (base + r.nodes) (command_tree rest)
    nested_rest_room =
        let total = nested_size steps rest in
        let same = kept in
        rw put.nodes (record { bytes = omega (arith, room.bytes); numbers = omega (arith, room.numbers) })

    -- The roots that were noted are those of the steps.
    pub noted_roots : take r.count roots_after ≡ step_roots base steps
    unfolding stored
    noted_roots =
        let long = roots_length base steps in
        ap₂ (λ (n : ℕ) (l : List ℕ). take n l) (put.count ∙ sym long) put.noted ∙ take_at (step_roots base steps) (drop (0 + length (step_roots base steps)) roots) (length (step_roots base steps)) refl

    module _ (later : List ℕ) (count : ℕ) (w : Numbered between later (at + 8 * r.nodes) (base + r.nodes) (command_tree rest) count) where
      pub nested_close_room : (1 ≤ count) × ((r.count ≤ length roots_after) × ((base + r.nodes + count - 1 + r.count ≤ 65535) × (at + 8 * r.nodes + 8 * count + 8 * r.count ≤ length later)))
      nested_close_room =
          let total = nested_size steps rest in
          let positive = size_positive (command_tree rest) in
          let same = kept in
          let also = numbered_keeps between later (at + 8 * r.nodes) (base + r.nodes) (command_tree rest) count nested_rest_room w in
          let long : length roots_after ≡ length roots = ap length put.noted ∙ stored_length roots 0 (step_roots base steps) (omega (arith, roots_length base steps)) in
          (omega (arith, w.nodes), (omega (arith, put.count), (omega (arith, w.nodes, put.nodes, put.count, room.numbers), omega (arith, w.nodes, put.nodes, put.count, room.bytes))))

      pub numbered_nested : (after : List ℕ)
          → after ≡ stored later (at + 8 * r.nodes + 8 * count) (flat_map node_bytes (closers (take r.count roots_after) (base + r.nodes + count - 1)))
          → Numbered out after at base (command_tree (steps_before steps rest)) (r.nodes + count + r.count)
      unfolding tree_bytes
      numbered_nested after h =
          let total = nested_size steps rest in
          let first = numbered_all base (step_trees steps) in
          let second = numbered (base + sizes (step_trees steps)) (command_tree rest) in
          let third = closers (step_roots base steps) (base + sizes (step_trees steps) + size (command_tree rest) - 1) in
          let x = flat_map node_bytes first in
          let y = flat_map node_bytes second in
          let z = flat_map node_bytes third in
          let lx = steps_length base steps in
          let ly = bytes_length (base + sizes (step_trees steps)) (command_tree rest) in
          let lxy = length-append x y in
          let two : later ≡ stored out at (x ++ y) =
          run_then out between later x y at (at + 8 * sizes (step_trees steps)) put.contents (rw put.nodes at w.contents) (omega arith) (omega (arith, room.bytes)) in
          let own : after ≡ stored later (at + 8 * sizes (step_trees steps) + 8 * size (command_tree rest)) z = rw (noted_roots, put.nodes, w.nodes) at h in
          let bytes : x ++ y ++ z ≡ flat_map node_bytes (numbered base (command_tree (steps_before steps rest))) =
          append_assoc x y z ∙ ap (λ (l : List ℕ). x ++ l) (sym (nodes_append second third)) ∙ sym (nodes_append first (second ++ third))
          ∙ ap (flat_map node_bytes) (sym (nested_nodes base steps rest)) in
          record {
            contents = run_then out later after (x ++ y) z at _ two own (omega arith) (omega (arith, room.bytes)) ∙ ap (stored out at) bytes;
            nodes = omega (arith, put.nodes, put.count, w.nodes);
          }
