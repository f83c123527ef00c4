-- A tree's nodes follow from its children's: room for the parts, and the parts with the parent's node behind them.
use Rattle.std.specs.Prelude.{◌≡◌, ◌∷◌, ◌++◌, ◌+◌, ◌*◌, ◌-◌, ◌≤◌}
use Rattle.kit.specs.Names.{refl, ap, sym, ◌∙◌, List, [], append-nil, append_assoc, ℕ, arith, length}
use Rattle.kit.specs.Names.{length-append}
use Rattle.definitions.specs.Basics.{flat_map}
use Rattle.definitions.specs.ContractFile.{NodeRecord, node}
use Rattle.definitions.specs.Rewriting.{Tree, leaf, one_child, two_children, three_children, setting, size, numbered, numbered_all, node_bytes}
use Rattle.theory_laws.proofs.Written.{nodes_length, numbered_length}
use Rattle.memory_buffer.specs.Buffer.{stored}
use Rattle.memory_buffer.proofs.Storing.{stored_length, stored_then}
use Rattle.write_nodes.specs.Numbering.{tree_bytes, Room, Numbered}

pub nodes_append : (rs qs : List NodeRecord) → flat_map node_bytes (rs ++ qs) ≡ flat_map node_bytes rs ++ flat_map node_bytes qs
unfolding flat_map
nodes_append [] qs = refl
nodes_append (r ∷ rs) qs = rw (nodes_append rs qs) (sym (append_assoc (node_bytes r) (flat_map node_bytes rs) (flat_map node_bytes qs)))

pub bytes_length : (base : ℕ) (tree : Tree) → length (tree_bytes base tree) ≡ 8 * size tree
unfolding tree_bytes
bytes_length base tree = nodes_length (numbered base tree) ∙ ap (λ (n : ℕ). 8 * n) (numbered_length base tree)

pub one_tree : (n : ℕ) (t : Tree) → flat_map node_bytes (numbered_all n (t ∷ [])) ≡ tree_bytes n t
unfolding numbered_all tree_bytes
one_tree n t = ap (flat_map node_bytes) (append-nil (numbered n t))

pub size_positive : (tree : Tree) → 1 ≤ size tree
unfolding size
size_positive (leaf kind arg first second) = omega arith
size_positive (one_child kind arg first) = omega arith
size_positive (two_children kind arg first second) = omega arith
size_positive (three_children kind first second third) = omega arith
size_positive (setting variable value) = omega arith

-- The bytes of a tree, as its children's and then its own node's.
leaf_bytes : (base kind arg first second : ℕ) → tree_bytes base (leaf kind arg first second) ≡ node_bytes (node kind arg first second 0)
unfolding tree_bytes numbered flat_map
leaf_bytes base kind arg first second = refl

last_bytes : (r : NodeRecord) → flat_map node_bytes (r ∷ []) ≡ node_bytes r
unfolding flat_map
last_bytes r = refl

one_bytes : (base kind arg : ℕ) (first : Tree) → tree_bytes base (one_child kind arg first) ≡ tree_bytes base first ++ node_bytes (node kind arg (base + size first - 1) 0 0)
unfolding tree_bytes numbered
one_bytes base kind arg first = nodes_append (numbered base first) (node kind arg (base + size first - 1) 0 0 ∷ []) ∙ ap (λ (l : List ℕ). flat_map node_bytes (numbered base first) ++ l) (last_bytes _)

pub setting_bytes : (base variable : ℕ) (value : Tree) → tree_bytes base (setting variable value) ≡ tree_bytes base value ++ node_bytes (node 22 0 variable (base + size value - 1) 0)
unfolding tree_bytes numbered
setting_bytes base variable value = nodes_append (numbered base value) (node 22 0 variable (base + size value - 1) 0 ∷ []) ∙ ap (λ (l : List ℕ). flat_map node_bytes (numbered base value) ++ l) (last_bytes _)

two_bytes_law : (base kind arg : ℕ) (first second : Tree)
    → tree_bytes base (two_children kind arg first second)
    ≡ tree_bytes base first ++ tree_bytes (base + size first) second ++ node_bytes (node kind arg (base + size first - 1) (base + size first + size second - 1) 0)
unfolding tree_bytes numbered
two_bytes_law base kind arg first second =
    let own = node kind arg (base + size first - 1) (base + size first + size second - 1) 0 in
    nodes_append (numbered base first ++ numbered (base + size first) second) (own ∷ [])
    ∙ ap (λ (l : List ℕ). flat_map node_bytes (numbered base first ++ numbered (base + size first) second) ++ l) (last_bytes own)
    ∙ ap (λ (l : List ℕ). l ++ node_bytes own) (nodes_append (numbered base first) (numbered (base + size first) second))

pub three_bytes : (base kind : ℕ) (first second third : Tree)
    → tree_bytes base (three_children kind first second third)
    ≡ tree_bytes base first ++ tree_bytes (base + size first) second ++ tree_bytes (base + size first + size second) third
    ++ node_bytes (node kind 0 (base + size first - 1) (base + size first + size second - 1) (base + size first + size second + size third - 1))
unfolding tree_bytes numbered
three_bytes base kind first second third =
    let own = node kind 0 (base + size first - 1) (base + size first + size second - 1) (base + size first + size second + size third - 1) in
    let a = numbered base first in
    let b = numbered (base + size first) second in
    let c = numbered (base + size first + size second) third in
    nodes_append (a ++ b ++ c) (own ∷ []) ∙ ap (λ (l : List ℕ). flat_map node_bytes (a ++ b ++ c) ++ l) (last_bytes own)
    ∙ ap (λ (l : List ℕ). l ++ node_bytes own) (nodes_append (a ++ b) c ∙ ap (λ (l : List ℕ). l ++ flat_map node_bytes c) (nodes_append a b))

-- One run behind another, where the places are given as they were computed.
pub run_then : (held between after first second : List ℕ) (at middle : ℕ) → between ≡ stored held at first → after ≡ stored between middle second
    → middle ≡ at + length first → at + length first ≤ length held → after ≡ stored held at (first ++ second)
run_then held between after first second at middle a b place fits =
    b ∙ ap (λ (d : List ℕ). stored d middle second) a ∙ ap (λ (n : ℕ). stored (stored held at first) n second) place ∙ stored_then held at first second fits

pub numbered_keeps : (held after : List ℕ) (at base : ℕ) (tree : Tree) (count : ℕ) → Room held at base tree → Numbered held after at base tree count → length after ≡ length held
numbered_keeps held after at base tree count room w =
    ap length w.contents ∙ stored_length held at (tree_bytes base tree) (omega (arith, room.bytes, bytes_length base tree))

module _ (held : List ℕ) (at base : ℕ) where
  pub numbered_leaf : (after : List ℕ) (kind arg first second : ℕ) → after ≡ stored held at (node_bytes (node kind arg first second 0))
      → Numbered held after at base (leaf kind arg first second) 1
  unfolding size
  numbered_leaf after kind arg first second h = record { contents = h ∙ ap (stored held at) (sym (leaf_bytes base kind arg first second)); nodes = refl }

  module _ (kind arg : ℕ) (tree : Tree) (room : Room held at base (one_child kind arg tree)) where
    pub room_one : Room held at base tree
    unfolding size
    room_one = record { bytes = omega (arith, room.bytes); numbers = omega (arith, room.numbers) }

    pub numbered_one : (between after : List ℕ) (count : ℕ) → Numbered held between at base tree count
        → after ≡ stored between (at + 8 * count) (node_bytes (node kind arg (base + count - 1) 0 0)) → Numbered held after at base (one_child kind arg tree) (count + 1)
    unfolding size
    numbered_one between after count w h =
        let place : at + 8 * size tree ≡ at + length (tree_bytes base tree) = omega (arith, bytes_length base tree) in
        let own : after ≡ stored between (at + 8 * size tree) (node_bytes (node kind arg (base + size tree - 1) 0 0)) = rw w.nodes at h in
        record {
          contents = run_then held between after _ _ at _ w.contents own place (omega (arith, room.bytes, bytes_length base tree)) ∙ ap (stored held at) (sym (one_bytes base kind arg tree));
          nodes = ap (λ (n : ℕ). n + 1) w.nodes;
        }

  module _ (kind arg : ℕ) (left right : Tree) (room : Room held at base (two_children kind arg left right)) where
    pub room_left : Room held at base left
    unfolding size
    room_left = record { bytes = omega (arith, room.bytes); numbers = omega (arith, room.numbers) }

    module _ (between : List ℕ) (left_count : ℕ) (w : Numbered held between at base left left_count) where
      pub room_right : Room between (at + 8 * left_count) (base + left_count) right
      unfolding size
      room_right =
          let same = numbered_keeps held between at base left left_count room_left w in
          rw w.nodes (record { bytes = omega (arith, room.bytes); numbers = omega (arith, room.numbers) })

      module _ (later : List ℕ) (right_count : ℕ) (v : Numbered between later (at + 8 * left_count) (base + left_count) right right_count) where
        pub room_parent : (at + 8 * left_count + 8 * right_count + 8 ≤ length later) × (base + left_count + right_count ≤ 65535)
        unfolding size
        room_parent =
            let same = numbered_keeps held between at base left left_count room_left w in
            let also = numbered_keeps between later (at + 8 * left_count) (base + left_count) right right_count room_right v in
            (omega (arith, room.bytes, w.nodes, v.nodes), omega (arith, room.numbers, w.nodes, v.nodes))

        pub numbered_two : (after : List ℕ)
            → after ≡ stored later (at + 8 * left_count + 8 * right_count) (node_bytes (node kind arg (base + left_count - 1) (base + left_count + right_count - 1) 0))
            → Numbered held after at base (two_children kind arg left right) (left_count + right_count + 1)
        unfolding size
        numbered_two after h =
            let a = tree_bytes base left in
            let b = tree_bytes (base + size left) right in
            let both : later ≡ stored held at (a ++ b) =
            run_then held between later a b at (at + 8 * size left) w.contents (rw w.nodes at v.contents) (omega (arith, bytes_length base left))
            (omega (arith, room.bytes, bytes_length base left)) in
            let own : after ≡ stored later (at + 8 * size left + 8 * size right) (node_bytes (node kind arg (base + size left - 1) (base + size left + size right - 1) 0)) = rw (w.nodes, v.nodes) at h in
            let long = length-append a b in
            record {
              contents =
                  run_then held later after (a ++ b) _ at _ both own (omega (arith, bytes_length base left, bytes_length (base + size left) right))
                  (omega (arith, room.bytes, bytes_length base left, bytes_length (base + size left) right))
                  ∙ ap (stored held at) (sym (two_bytes_law base kind arg left right));
              nodes = ap (λ (n : ℕ). n + right_count + 1) w.nodes ∙ ap (λ (n : ℕ). size left + n + 1) v.nodes;
            }

-- The same with the tree or the count under another name.
module _ (held : List ℕ) (at base : ℕ) where
  pub room_as : (tree other : Tree) → tree ≡ other → Room held at base tree → Room held at base other
  room_as tree other e room = rw e at room

  module _ (after : List ℕ) where
    pub numbered_as : (tree other : Tree) (count total : ℕ) → tree ≡ other → total ≡ count → Numbered held after at base other count → Numbered held after at base tree total
    numbered_as tree other count total e f w = rw (e, f) w

-- What there is room for, as the writing of a node asks it.
pub room_any : (held : List ℕ) (at base : ℕ) (tree : Tree) → Room held at base tree → at + 8 ≤ length held
room_any held at base tree room = omega (arith, room.bytes, size_positive tree)

pub room_above_one : (held : List ℕ) (at base kind arg : ℕ) (tree : Tree) → Room held at base (one_child kind arg tree) → (between : List ℕ) (count : ℕ) → Numbered held between at base tree count
    → (1 ≤ count) × ((base + count ≤ 65535) × (at + 8 * count + 8 ≤ length between))
unfolding size
room_above_one held at base kind arg tree room between count w =
    let same = numbered_keeps held between at base tree count (room_one held at base kind arg tree room) w in
    (omega (arith, w.nodes, size_positive tree), (omega (arith, w.nodes, room.numbers), omega (arith, w.nodes, room.bytes)))

pub room_above_two : (held : List ℕ) (at base kind arg : ℕ) (left right : Tree) → Room held at base (two_children kind arg left right) → (between : List ℕ) (left_count : ℕ)
    → Numbered held between at base left left_count → (later : List ℕ) (right_count : ℕ) → Numbered between later (at + 8 * left_count) (base + left_count) right right_count
    → (1 ≤ left_count) × ((base + left_count + right_count ≤ 65535) × (at + 8 * left_count + 8 * right_count + 8 ≤ length later))
room_above_two held at base kind arg left right room between left_count w later right_count v =
    let parent = room_parent held at base kind arg left right room between left_count w later right_count v in
    (omega (arith, w.nodes, size_positive left), (parent.1, parent.0))
