-- The node that sets a variable above its value, and a node above three children.
use Rattle.std.specs.Prelude.{◌≡◌, ◌++◌, ◌+◌, ◌*◌, ◌-◌, ◌≤◌}
use Rattle.kit.specs.Names.{ap, sym, ◌∙◌, List, ℕ, arith, length, length-append}
use Rattle.definitions.specs.ContractFile.{node}
use Rattle.definitions.specs.Rewriting.{Tree, three_children, setting, size, node_bytes}
use Rattle.memory_buffer.specs.Buffer.{stored}
use Rattle.write_nodes.specs.Numbering.{tree_bytes, Room, Numbered}
use Rattle.write_nodes.proofs.TreeNodes.{bytes_length, size_positive, setting_bytes, three_bytes, run_then, numbered_keeps}

module _ (held : List ℕ) (at base : ℕ) where
  module _ (variable : ℕ) (value : Tree) (room : Room held at base (setting variable value)) where
    pub room_value : Room held at base value
    unfolding size
    room_value = record { bytes = omega (arith, room.bytes); numbers = omega (arith, room.numbers) }

    module _ (between : List ℕ) (count : ℕ) (w : Numbered held between at base value count) where
      pub room_setting : (1 ≤ count) × ((base + count ≤ 65535) × (at + 8 * count + 8 ≤ length between))
      unfolding size
      room_setting =
          let same = numbered_keeps held between at base value count room_value w in
          (omega (arith, w.nodes, size_positive value), (omega (arith, w.nodes, room.numbers), omega (arith, w.nodes, room.bytes)))

      pub numbered_setting : (after : List ℕ) → after ≡ stored between (at + 8 * count) (node_bytes (node 22 0 variable (base + count - 1) 0))
          → Numbered held after at base (setting variable value) (count + 1)
      unfolding size
      numbered_setting after h =
          let place : at + 8 * size value ≡ at + length (tree_bytes base value) = omega (arith, bytes_length base value) in
          let own : after ≡ stored between (at + 8 * size value) (node_bytes (node 22 0 variable (base + size value - 1) 0)) = rw w.nodes at h in
          record {
            contents = run_then held between after _ _ at _ w.contents own place (omega (arith, room.bytes, bytes_length base value)) ∙ ap (stored held at) (sym (setting_bytes base variable value));
            nodes = ap (λ (n : ℕ). n + 1) w.nodes;
          }

  module _ (kind : ℕ) (first second third : Tree) (room : Room held at base (three_children kind first second third)) where
    pub room_first : Room held at base first
    unfolding size
    room_first = record { bytes = omega (arith, room.bytes); numbers = omega (arith, room.numbers) }

    module _ (between : List ℕ) (a : ℕ) (w : Numbered held between at base first a) where
      pub room_second : Room between (at + 8 * a) (base + a) second
      unfolding size
      room_second =
          let same = numbered_keeps held between at base first a room_first w in
          rw w.nodes (record { bytes = omega (arith, room.bytes); numbers = omega (arith, room.numbers) })

      module _ (later : List ℕ) (b : ℕ) (v : Numbered between later (at + 8 * a) (base + a) second b) where
        pub room_third : Room later (at + 8 * a + 8 * b) (base + a + b) third
        unfolding size
        room_third =
            let same = numbered_keeps held between at base first a room_first w in
            let also = numbered_keeps between later (at + 8 * a) (base + a) second b room_second v in
            rw (w.nodes, v.nodes) (record { bytes = omega (arith, room.bytes); numbers = omega (arith, room.numbers) })

        module _ (last : List ℕ) (c : ℕ) (u : Numbered later last (at + 8 * a + 8 * b) (base + a + b) third c) where
          pub room_above_three : (1 ≤ a) × ((base + a + b + c ≤ 65535) × (at + 8 * a + 8 * b + 8 * c + 8 ≤ length last))
          unfolding size
          room_above_three =
              let same = numbered_keeps held between at base first a room_first w in
              let also = numbered_keeps between later (at + 8 * a) (base + a) second b room_second v in
              let too = numbered_keeps later last (at + 8 * a + 8 * b) (base + a + b) third c room_third u in
              (omega (arith, w.nodes, size_positive first), (omega (arith, w.nodes, v.nodes, u.nodes, room.numbers), omega (arith, w.nodes, v.nodes, u.nodes, room.bytes)))

          pub numbered_three : (after : List ℕ)
              → after ≡ stored last (at + 8 * a + 8 * b + 8 * c) (node_bytes (node kind 0 (base + a - 1) (base + a + b - 1) (base + a + b + c - 1)))
              → Numbered held after at base (three_children kind first second third) (a + b + c + 1)
          unfolding size
          numbered_three after h =
              let x = tree_bytes base first in
              let y = tree_bytes (base + size first) second in
              let z = tree_bytes (base + size first + size second) third in
              let lx = bytes_length base first in
              let ly = bytes_length (base + size first) second in
              let lz = bytes_length (base + size first + size second) third in
              let xy = length-append x y in
              let xyz = length-append (x ++ y) z in
              let two : later ≡ stored held at (x ++ y) =
              run_then held between later x y at (at + 8 * size first) w.contents (rw w.nodes at v.contents) (omega arith) (omega (arith, room.bytes)) in
              let three : last ≡ stored held at (x ++ y ++ z) =
              run_then held later last (x ++ y) z at (at + 8 * size first + 8 * size second) two (rw (w.nodes, v.nodes) at u.contents) (omega arith) (omega (arith, room.bytes)) in
              let own : after ≡ stored last (at + 8 * size first + 8 * size second + 8 * size third)
              (node_bytes (node kind 0 (base + size first - 1) (base + size first + size second - 1) (base + size first + size second + size third - 1))) =
              rw (w.nodes, v.nodes, u.nodes) at h in
              record {
                contents = run_then held last after (x ++ y ++ z) _ at _ three own (omega arith) (omega (arith, room.bytes)) ∙ ap (stored held at) (sym (three_bytes base kind first second third));
                nodes =
                    ap (λ (n : ℕ). n + b + c + 1) w.nodes ∙ ap (λ (n : ℕ). size first + n + c + 1) v.nodes ∙ ap (λ (n : ℕ). size first + size second + n + 1) u.nodes;
              }
