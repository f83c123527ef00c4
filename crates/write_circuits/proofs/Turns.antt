-- Circuits put one after another: room for the first and for those that follow, and all of them together.
use Rattle.std.specs.Prelude.{◌≡◌, ◌∷◌, ◌+◌, ◌*◌, ◌-◌, ◌≤◌}
use Rattle.kit.specs.Names.{refl, ap, sym, ◌∙◌, List, [], ℕ, arith, add-one, length}
use Rattle.definitions.specs.Basics.{flat_map}
use Rattle.definitions.specs.Rewriting.{size, sizes, numbered, numbered_all, node_bytes}
use Rattle.memory_buffer.specs.Buffer.{stored}
use Rattle.memory_buffer.proofs.Storing.{stored_nothing, stored_length}
use Rattle.write_nodes.specs.Numbering.{tree_bytes, Room, Numbered}
use Rattle.write_nodes.proofs.TreeNodes.{nodes_append, bytes_length, size_positive, run_then, numbered_keeps}
use Rattle.write_circuits.specs.declared.Circuits.{Circuits}
use Rattle.write_circuits.specs.Circuits.{LoggedClaim, trees_of, four, four_of, fours_of, CircuitsRoom, CircuitPut, CircuitsPut}

module _ (out fours : List ℕ) (at base place : ℕ) where
  pub room_same : (claims others : List LoggedClaim) → claims ≡ others → CircuitsRoom out fours at base place claims → CircuitsRoom out fours at base place others
  room_same claims others e room = rw e at room

  pub put_same : (after fours_after : List ℕ) (claims others : List LoggedClaim) (r : Circuits) → claims ≡ others → CircuitsPut out after fours fours_after at base place others r
      → CircuitsPut out after fours fours_after at base place claims r
  put_same after fours_after claims others r e w = rw e w

  pub put_none : CircuitsPut out out fours fours at base place [] (record { count = 0; nodes = 0 })
  unfolding numbered_all flat_map fours_of sizes
  put_none = record { contents = sym (stored_nothing out at); noted = sym (stored_nothing fours place); nodes = refl; count = refl }

  module _ (c : LoggedClaim) (claims : List LoggedClaim) (room : CircuitsRoom out fours at base place (c ∷ claims)) where
    pub room_circuit : Room out at base c.tree
    unfolding sizes
    room_circuit = record { bytes = omega (arith, room.bytes); numbers = omega (arith, room.numbers) }

    pub room_four : place + 4 ≤ length fours
    room_four = omega (arith, room.space)

    pub root_fits : (between : List ℕ) (nodes : ℕ) → Numbered out between at base c.tree nodes → (1 ≤ nodes) × (base + nodes ≤ 65535)
    root_fits between nodes w = (omega (arith, w.nodes, size_positive c.tree), omega (arith, w.nodes, room_circuit.numbers))

    module _ (between fours_between : List ℕ) (nodes : ℕ) (w : CircuitPut out between fours fours_between at base place c nodes) where
      pub room_circuits : CircuitsRoom between fours_between (at + 8 * nodes) (base + nodes) (place + 4) claims
      unfolding sizes
      room_circuits =
          let same = numbered_keeps out between at base c.tree nodes room_circuit w.circuit in
          let long : length fours_between ≡ length fours =
          ap length w.claim ∙ stored_length fours place (four c.guard c.variable c.owner (base + nodes - 1)) (omega (arith, room.space)) in
          record {
            bytes = omega (arith, room.bytes, w.circuit.nodes);
            numbers = omega (arith, room.numbers, w.circuit.nodes);
            space = omega (arith, room.space);
          }

      pub put_first : (after fours_after : List ℕ) (r : Circuits) → CircuitsPut between after fours_between fours_after (at + 8 * nodes) (base + nodes) (place + 4) claims r
          → CircuitsPut out after fours fours_after at base place (c ∷ claims) (record { count = r.count + 1; nodes = nodes + r.nodes })
      unfolding numbered_all sizes fours_of tree_bytes
      put_first after fours_after r p =
          let a = size c.tree in
          let long = bytes_length base c.tree in
          let own : fours_between ≡ stored fours place (four_of base c) = rw w.circuit.nodes at w.claim in
          let later : after ≡ stored between (at + 8 * a) (flat_map node_bytes (numbered_all (base + a) (trees_of claims))) = rw w.circuit.nodes at p.contents in
          let later_fours : fours_after ≡ stored fours_between (place + 4) (fours_of (base + a) claims) = rw w.circuit.nodes at p.noted in
          record {
            contents =
                run_then out between after (tree_bytes base c.tree) _ at (at + 8 * a) w.circuit.contents later (omega arith) (omega (arith, room.bytes))
                ∙ ap (stored out at) (sym (nodes_append (numbered base c.tree) (numbered_all (base + a) (trees_of claims))));
            noted = run_then fours fours_between fours_after (four_of base c) (fours_of (base + a) claims) place (place + 4) own later_fours refl (omega (arith, room.space));
            nodes = ap (λ (n : ℕ). n + r.nodes) w.circuit.nodes ∙ ap (λ (n : ℕ). a + n) p.nodes;
            count = ap (λ (n : ℕ). n + 1) p.count ∙ add-one (length claims);
          }
