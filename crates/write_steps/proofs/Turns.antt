-- Steps put one after another: room for the first and for those that follow, and all of them together.
use Rattle.std.specs.Prelude.{◌≡◌, ◌∷◌, ◌+◌, ◌*◌, ◌-◌, ◌<◌, ◌≤◌}
use Rattle.kit.specs.Names.{refl, ap, sym, ◌∙◌, List, [], ℕ, arith, add-one, length}
use Rattle.definitions.specs.Basics.{flat_map}
use Rattle.definitions.specs.Rewriting.{Step, size, sizes, numbered, numbered_all, node_bytes}
use Rattle.memory_buffer.specs.Buffer.{stored}
use Rattle.memory_buffer.proofs.Storing.{stored_nothing, stored_length}
use Rattle.write_nodes.specs.Numbering.{tree_bytes, Room, Numbered}
use Rattle.write_nodes.proofs.TreeNodes.{nodes_append, bytes_length, size_positive, run_then, numbered_keeps}
use Rattle.write_steps.specs.declared.Steps.{Steps}
use Rattle.write_steps.specs.Steps.{step_tree, step_trees, step_roots, StepsRoom, StepsPut}

module _ (out roots : List ℕ) (at base from : ℕ) where
  pub room_same : (steps others : List Step) → steps ≡ others → StepsRoom out roots at base from steps → StepsRoom out roots at base from others
  room_same steps others e room = rw e at room

  pub put_same : (after roots_after : List ℕ) (steps others : List Step) (r : Steps) → steps ≡ others → StepsPut out after roots roots_after at base from others r
      → StepsPut out after roots roots_after at base from steps r
  put_same after roots_after steps others r e w = rw e w

  pub put_none : StepsPut out out roots roots at base from [] (record { count = 0; nodes = 0 })
  unfolding numbered_all flat_map step_roots sizes
  put_none = record { contents = sym (stored_nothing out at); noted = sym (stored_nothing roots from); nodes = refl; count = refl }

  module _ (s : Step) (steps : List Step) (room : StepsRoom out roots at base from (s ∷ steps)) where
    pub room_step : Room out at base (step_tree s)
    unfolding sizes
    room_step = record { bytes = omega (arith, room.bytes); numbers = omega (arith, room.numbers) }

    pub room_root : from < length roots
    room_root = omega (arith, room.space)

    module _ (between : List ℕ) (nodes : ℕ) (w : Numbered out between at base (step_tree s) nodes) (roots_between : List ℕ)
        (noted : roots_between ≡ stored roots from ((base + nodes - 1) ∷ [])) where
      pub root_fits : (1 ≤ nodes) × (base + nodes ≤ 65535)
      root_fits = (omega (arith, w.nodes, size_positive (step_tree s)), omega (arith, w.nodes, room_step.numbers))

      pub room_steps : StepsRoom between roots_between (at + 8 * nodes) (base + nodes) (from + 1) steps
      unfolding sizes
      room_steps =
          let same = numbered_keeps out between at base (step_tree s) nodes room_step w in
          let long : length roots_between ≡ length roots = ap length noted ∙ stored_length roots from ((base + nodes - 1) ∷ []) (omega (arith, room.space)) in
          record {
            bytes = omega (arith, room.bytes, w.nodes);
            numbers = omega (arith, room.numbers, w.nodes);
            space = omega (arith, room.space);
          }

      pub put_first : (after roots_after : List ℕ) (r : Steps) → StepsPut between after roots_between roots_after (at + 8 * nodes) (base + nodes) (from + 1) steps r
          → StepsPut out after roots roots_after at base from (s ∷ steps) (record { count = r.count + 1; nodes = nodes + r.nodes })
      unfolding numbered_all sizes step_roots tree_bytes
      put_first after roots_after r p =
          let a = size (step_tree s) in
          let long = bytes_length base (step_tree s) in
          let own : roots_between ≡ stored roots from ((base + a - 1) ∷ []) = rw w.nodes at noted in
          let later : after ≡ stored between (at + 8 * a) (flat_map node_bytes (numbered_all (base + a) (step_trees steps))) = rw w.nodes at p.contents in
          let later_roots : roots_after ≡ stored roots_between (from + 1) (step_roots (base + a) steps) = rw w.nodes at p.noted in
          record {
            contents =
                run_then out between after (tree_bytes base (step_tree s)) _ at (at + 8 * a) w.contents later (omega arith) (omega (arith, room.bytes))
                ∙ ap (stored out at) (sym (nodes_append (numbered base (step_tree s)) (numbered_all (base + a) (step_trees steps))));
            noted = run_then roots roots_between roots_after ((base + a - 1) ∷ []) (step_roots (base + a) steps) from (from + 1) own later_roots refl (omega (arith, room.space));
            nodes = ap (λ (n : ℕ). n + r.nodes) w.nodes ∙ ap (λ (n : ℕ). a + n) p.nodes;
            count = ap (λ (n : ℕ). n + 1) p.count ∙ add-one (length steps);
          }
